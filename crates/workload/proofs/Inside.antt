-- What lies inside an opening comes before its closing.
use Rattle.std.proofs.Common.{◌≡◌, ℕ, zero, suc, ◌+◌, ◌<◌, ◌≤◌, ◌≢◌, ◌⊎◌, List, length, sym, refl, ◌∙◌, inl, inr, arith}
use Rattle.std.proofs.lemmas.Bool.{cases_lt}
use Rattle.table.specs.declared.records.Arc.{Arc}
use Rattle.table.specs.declared.records.Node.{Node}
use Rattle.table.specs.declared.records.Role.{Role}
use Rattle.table.specs.declared.records.Role.TheVariants.{Plain, Opening, Closing}
use Rattle.task.specs.Graph.{role, region, IsNode, HomeOf, ClosingOf, Last, Ranged}
use Rattle.task.specs.Shape.{Shaped}
use Rattle.task.proofs.Follows.{home_opens_lem, one_closing, closing_beside, exit_there}
use Rattle.workload.specs.Nested.{HomesSmaller}
use Rattle.task.proofs.Apart.{plain_not_opening, closing_not_opening}

-- o is among the homes of a node: its home, its home's home, and so on
pub data Inside (ns : List Node) (o : ℕ) : ℕ → Type 0 where
  directly : {v : ℕ} → HomeOf ns v o → Inside ns o v
  deeper : {v h : ℕ} → HomeOf ns v h → Inside ns o h → Inside ns o v

pub opening_or_not : (r : Role) → (r ≡ Opening) ⊎ (r ≢ Opening)
opening_or_not Plain = inr plain_not_opening
opening_or_not Opening = inl refl
opening_or_not (Closing o) = inr (closing_not_opening o)

module _ (ns : List Node) where
  home_beside : (h u v : ℕ) → region ns u ≡ region ns v → HomeOf ns u h → HomeOf ns v h
  home_beside h u v e (b, i) = (b, sym e ∙ i)

  -- nodes of one region lie inside the same openings
  inside_beside : (o u v : ℕ) → region ns u ≡ region ns v → Inside ns o u → Inside ns o v
  inside_beside o u v e (directly h) = directly (home_beside o u v e h)
  inside_beside o u v e (deeper {h = h} i k) = deeper (home_beside h u v e i) k

  pub inside_greater : HomesSmaller ns → (o v : ℕ) → IsNode ns v → Inside ns o v → o < v
  inside_greater small o v n (directly i) = small v o n i
  inside_greater small o v n (deeper {h = h} i k) =
      let less = small v h n i in
      omega (arith, inside_greater small o h (omega arith) k)

module _ (ns : List Node) (arcs : List Arc) (r : Ranged ns arcs) (s : Shaped ns arcs) where
  -- k bounds how many nodes come from v on
  home_before_closing : (o c : ℕ) → ClosingOf ns o c → (k v : ℕ) → length ns ≤ k + v → IsNode ns v → HomeOf ns v o → v < c
  home_before_closing o c cl zero v l n i = absurd (omega arith)
  home_before_closing o c cl (suc k) v l n i = go (cases_lt v c) (home_before_closing o c cl k)
    where
      beyond : c ≤ v → ((w : ℕ) → length ns ≤ k + w → IsNode ns w → HomeOf ns w o → w < c) → (role ns v ≡ Opening) ⊎ (role ns v ≢ Opening) → v < c
      beyond b later (inl op) =
          let one = one_closing ns arcs s v op in
          let d = one.the_one in
          let more = r.mates_smaller d v one.has_it.is_node one.has_it.closes in
          omega (arith, later d (omega arith) one.has_it.is_node (home_beside ns o v d (sym (closing_beside ns arcs s v d one.has_it)) i))
      beyond b later (inr ends) =
          let last : Last ns arcs v =
          record {
            ends = ends;
            none_after = λ w j inner.
                let more = r.arcs_forward v w j in
                let less = later w (omega arith) (r.arcs_between_nodes v w j) (home_beside ns o v w inner.within i) in
                omega arith;
          } in
          r.arcs_forward v c (exit_there ns arcs s o v c n i cl last)

      go : (v < c) ⊎ (c ≤ v) → ((w : ℕ) → length ns ≤ k + w → IsNode ns w → HomeOf ns w o → w < c) → v < c
      go (inl b) later = b
      go (inr b) later = beyond b later (opening_or_not (role ns v))

  inside_before : (o c : ℕ) → ClosingOf ns o c → (k v : ℕ) → length ns ≤ k + v → IsNode ns v → Inside ns o v → v < c
  inside_before o c cl zero v l n i = absurd (omega arith)
  inside_before o c cl (suc k) v l n (directly i) = home_before_closing o c cl (suc k) v l n i
  inside_before o c cl (suc k) v l n (deeper {h = h} i inside) =
      let one = one_closing ns arcs s h (home_opens_lem ns arcs s v h n i) in
      let d = one.the_one in
      let later = home_before_closing h d one.has_it (suc k) v l n i in
      let beside = inside_beside ns o h d (sym (closing_beside ns arcs s h d one.has_it)) inside in
      omega (arith, inside_before o c cl k d (omega arith) one.has_it.is_node beside)

  pub inside_before_closing : (o c v : ℕ) → ClosingOf ns o c → IsNode ns v → Inside ns o v → v < c
  inside_before_closing o c v cl n i = inside_before o c cl (length ns) v (omega arith) n i
