-- A walk in ticks, with every node a goal, gives the greatest lengths.
use Rattle.std.proofs.Common.{◌≡◌, ℕ, ◌/◌, ◌%◌, ◌^◌, ◌<◌, ◌≤◌, max, ◌⊎◌, List, length, get_or, replicate, sym, refl, ap, ◌∙◌, subst, inl, inr, arith}
use lib.ListN.{length-replicate, get_or-replicate}
use Rattle.std.proofs.lemmas.List.{get_or_past}
use Rattle.std.proofs.lemmas.Bool.{cases_lt}
use Rattle.sets.specs.declared.bit_set.BitSet.{BitSet}
use Rattle.sets.specs.Sets.{Has, Marks}
use Rattle.sets.proofs.Bits.{zero_or_one}
use Rattle.table.specs.declared.records.Arc.{Arc}
use Rattle.table.specs.declared.records.Node.{Node}
use Rattle.task.specs.Graph.{IsNode, Joined, Ranged}
use Rattle.paths.specs.Instances.{capped_sum, node_ticks, Greatest}
use Rattle.paths.specs.Paths.{Path, end, step, first, last, Each, Chain, LeadsTo, path_value}
use Rattle.paths.specs.Walks.{Walked}
use Rattle.paths.proofs.Greatest.{greatest}
use Rattle.paths.proofs.Summed.{not_capped}
use Rattle.workload.specs.Greatest.{GreatestOf}
use Rattle.workload.specs.Measures.{PathOf, IsLongestPath, IsLongestFrom, Lengths}

zeros : ℕ → List ℕ
zeros m = replicate m 0

zero_at : (m v : ℕ) → get_or (zeros m) v 0 ≡ 0
unfolding zeros
zero_at m v = go (cases_lt v m)
  where
    go : (v < m) ⊎ (m ≤ v) → get_or (zeros m) v 0 ≡ 0
    go (inl l) = get_or-replicate m v 0 0 l
    go (inr l) = get_or_past (zeros m) v 0 (omega (arith, length-replicate {A = ℕ} m 0))

module _ (ns : List Node) (arcs : List Arc) (r : Ranged ns arcs) where
  -- a chain from a node is a path of the task
  chain_nodes : (p : Path) → IsNode ns (first p) → Chain (Joined arcs) p → Each (IsNode ns) p
  chain_nodes (end v) i c = i
  chain_nodes (step v p) i c = (i, chain_nodes p (r.arcs_between_nodes v (first p) c.0) c.1)

  last_node : (p : Path) → Each (IsNode ns) p → IsNode ns (last p)
  last_node (end v) i = i
  last_node (step v p) is = last_node p is.1

  first_node : (p : Path) → Each (IsNode ns) p → IsNode ns (first p)
  first_node (end v) i = i
  first_node (step v p) is = is.0

  module _ (goals found : BitSet) (before values : List ℕ) (all : Marks (λ k. k < length ns) goals)
      (w : Walked max capped_sum node_ticks ns arcs goals before values found) where
    -- every path of the task leads to a goal
    leads : (p : Path) → PathOf ns arcs p → LeadsTo ns arcs goals (first p) p
    leads p h = record {
      from_node = first_node p h.nodes;
      begins = refl;
      chain = h.joined;
      ends = all.every (last p) (last_node p h.nodes);
    }

    alone : (v : ℕ) → IsNode ns v → PathOf ns arcs (end v)
    alone v i = record { nodes = i; joined = tt }

    is_found : (v : ℕ) → IsNode ns v → Has found v
    is_found v i = go (zero_or_one (found.bits / 2 ^ v))
      where
        go : (found.bits / 2 ^ v % 2 ≡ 0) ⊎ (found.bits / 2 ^ v % 2 ≡ 1) → Has found v
        go (inl z) = absurd (w.no_path v (λ h. omega arith) (end v) (leads (end v) (alone v i)))
        go (inr h) = h

    at : (v : ℕ) → IsNode ns v → Greatest (path_value capped_sum node_ticks ns) (LeadsTo ns arcs goals v) (get_or values v 0)
    at v i = greatest (path_value capped_sum node_ticks ns) (LeadsTo ns arcs goals v) (get_or values v 0) (w.value v (is_found v i) 0)

    pub walked_lengths : before ≡ replicate 64 0 → length ns ≤ length values → Lengths ns arcs values
    unfolding zeros
    walked_lengths none room = record { from_node = from_node; elsewhere = elsewhere; room = room }
      where
        from_node : (v : ℕ) → IsNode ns v → IsLongestFrom ns arcs v (get_or values v 0)
        from_node v i =
            let g = at v i in
            let p = g.attained.0 in
            let h = g.attained.1 in
            let is : IsNode ns (first p) = subst (IsNode ns) (sym h.begins) i in
            record {
              attained = (
                p,
                record { nodes = chain_nodes p is h.chain; joined = h.chain },
                h.begins,
                sym (not_capped ns arcs r p is h.chain) ∙ g.attained.2,
              );
              not_exceeded = λ q path e.
                  let f = first_node q path.nodes in
                  omega (
                    arith,
                    not_capped ns arcs r q f path.joined,
                    g.at_least q (subst (λ (u : ℕ). LeadsTo ns arcs goals u q) e (leads q path)),
                  );
            }

        elsewhere : (v : ℕ) → (IsNode ns v → ⊥) → get_or values v 0 ≡ 0
        elsewhere v not =
            w.kept v (λ h. not (w.only_nodes v h)) 0 ∙ ap (λ (l : List ℕ). get_or l v 0) none ∙ zero_at 64 v

-- the greatest of the lengths is that of a longest path, since a node takes some time
pub greatest_longest : (ns : List Node) (arcs : List Arc) (values : List ℕ) (most : ℕ) → Ranged ns arcs → Lengths ns arcs values
    → GreatestOf values most → IsLongestPath ns arcs most
greatest_longest ns arcs values most r l g = go g.attained
  where
    below : (v : ℕ) → IsNode ns v → get_or values v 0 ≤ most
    below v i = g.at_most v (omega (arith, l.room))

    from : (k : ℕ) → IsNode ns k → get_or values k 0 ≡ most → IsLongestPath ns arcs most
    from k i e =
        let a = (l.from_node k i).attained in
        record {
          attained = (a.0, a.1, a.3 ∙ e);
          not_exceeded = λ p path.
              let f = first_node ns arcs r p path.nodes in
              omega (arith, (l.from_node (first p) f).not_exceeded p path refl, below (first p) f);
        }

    none : most ≡ 0 → ⊥
    none z =
        let i = r.some_node in
        omega (arith, below 0 i, (l.from_node 0 i).not_exceeded (end 0) (record { nodes = i; joined = tt }) refl, r.times_positive 0 i)

    at_node : (k : ℕ) → get_or values k 0 ≡ most → (k < length ns) ⊎ (length ns ≤ k) → IsLongestPath ns arcs most
    at_node k e (inl i) = from k i e
    at_node k e (inr past) = absurd (none (sym e ∙ l.elsewhere k (λ i. omega arith)))

    go : (most ≡ 0) ⊎ ((k : ℕ) × (k < length values) × (get_or values k 0 ≡ most)) → IsLongestPath ns arcs most
    go (inl z) = absurd (none z)
    go (inr (k, lt, e)) = at_node k e (cases_lt k (length ns))
