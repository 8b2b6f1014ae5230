-- The ready nodes of a job, from those under way and those that may start.
use Rattle.std.proofs.Common.{◌≡◌, ℕ, ◌+◌, ◌<◌, ◌⊎◌, List, length, sym, refl, subst, inl, inr, arith}
use Rattle.std.proofs.lemmas.Bool.{cases_eq}
use Rattle.jobs.specs.declared.node_state.NodeState.{NodeState}
use Rattle.jobs.specs.Job.{state, HasEnded, Taken, Ready}
use Rattle.jobs.proofs.Entering.{ended_or_not}
use Rattle.sets.specs.declared.bit_set.BitSet.{BitSet}
use Rattle.sets.specs.Sets.{Has, Without, Marks}
use Rattle.table.specs.declared.records.Arc.{Arc}
use Rattle.table.specs.declared.records.Node.{Node}
use Rattle.task.specs.Graph.{IsNode, Joined, Ranged, from, to}
use Rattle.dispatch.specs.Search.{UnderWay, MayStart, Struck}

-- striking one arc after the other
module _ (arcs : List Arc) (under may : BitSet) where
  pub struck_none : Marks (Struck arcs under may 0) may
  struck_none =
      record { only = λ v h. record { may_start = h; none_before = λ k l e g. not_below k l }; every = λ v s. s.may_start }
    where
      not_below : (k : ℕ) → k < 0 → ⊥
      not_below k l = omega arith

  struck_more : (m v : ℕ) → Struck arcs under may m v → (to arcs m ≡ v → Has under (from arcs m) → ⊥) → Struck arcs under may (m + 1) v
  struck_more m v s h = record { may_start = s.may_start; none_before = λ k l e g. go k l e g (cases_eq k m) }
    where
      go : (k : ℕ) → k < m + 1 → to arcs k ≡ v → Has under (from arcs k) → (k ≡ m) ⊎ (k ≡ m → ⊥) → ⊥
      go k l e g (inl q) = h (subst (λ (i : ℕ). to arcs i ≡ v) q e) (subst (λ (i : ℕ). Has under (from arcs i)) q g)
      go k l e g (inr d) = s.none_before k (grind arith) e g

  struck_less : (m v : ℕ) → Struck arcs under may (m + 1) v → Struck arcs under may m v
  struck_less m v s = record { may_start = s.may_start; none_before = λ k l e g. s.none_before k (omega arith) e g }

  -- the arc changes nothing: its start is not under way, or its end is struck already
  pub struck_idle : (m : ℕ) (left : BitSet) → Marks (Struck arcs under may m) left → (Has under (from arcs m) → Has left (to arcs m) → ⊥)
      → Marks (Struck arcs under may (m + 1)) left
  struck_idle m left w h =
      record {
        only = λ v g. struck_more m v (w.only v g) (λ e b. h b (subst (λ (i : ℕ). Has left i) (sym e) g));
        every = λ v s. w.every v (struck_less m v s);
      }

  pub struck_out : (m : ℕ) (left rest : BitSet) → Marks (Struck arcs under may m) left → Has under (from arcs m) → Without left (to arcs m) rest
      → Marks (Struck arcs under may (m + 1)) rest
  struck_out m left rest w b o =
      record {
        only = λ v g. struck_more m v (w.only v (o.no_more v g)) (λ e _. o.gone (subst (λ (i : ℕ). Has rest i) (sym e) g));
        every = λ v s. kept v s (o.keeps v (w.every v (struck_less m v s)));
      }
    where
      kept : (v : ℕ) → Struck arcs under may (m + 1) v → (v ≡ to arcs m) ⊎ Has rest v → Has rest v
      kept v s (inl e) = absurd (s.none_before m (omega arith) (sym e) b)
      kept v s (inr h) = h

-- what is left after all arcs is ready
pub ready_struck : (ns : List Node) (arcs : List Arc) (job : List NodeState) (under may r : BitSet) → Ranged ns arcs
    → Marks (UnderWay ns job) under → Marks (MayStart ns job) may → Marks (Struck arcs under may (length arcs)) r → Marks (Ready ns arcs job) r
ready_struck ns arcs job under may r g b m s = record { only = λ v h. only v (s.only v h); every = λ v h. s.every v (every v h) }
  where
    only : (v : ℕ) → Struck arcs under may (length arcs) v → Ready ns arcs job v
    only v h =
        let start = m.only v h.may_start in
        record {
          is_node = start.under_way.is_node;
          taken = start.under_way.taken;
          not_ended = start.under_way.not_ended;
          opening_ended = start.opening_ended;
          all_before = before;
        }
      where
        before : (u : ℕ) → Joined arcs u v → Taken ns job u → HasEnded job u
        before u j t = go (ended_or_not (state job u))
          where
            node : IsNode ns u
            node = let f = g.arcs_forward u v j in let l = g.arcs_between_nodes u v j in omega arith

            go : HasEnded job u ⊎ (HasEnded job u → ⊥) → HasEnded job u
            go (inl e) = e
            go (inr e) =
                absurd (h.none_before j.0 j.1.is_arc j.1.stops
                (subst (λ (i : ℕ). Has under i) (sym j.1.starts) (b.every u (record { is_node = node; taken = t; not_ended = e }))))

    every : (v : ℕ) → Ready ns arcs job v → Struck arcs under may (length arcs) v
    every v h =
        record {
          may_start = m.every v (record { under_way = record { is_node = h.is_node; taken = h.taken; not_ended = h.not_ended }; opening_ended = h.opening_ended });
          none_before = λ k l e q.
              let u = b.only (from arcs k) q in
              u.not_ended (h.all_before (from arcs k) (k, record { is_arc = l; starts = refl; stops = e }) u.taken);
        }
