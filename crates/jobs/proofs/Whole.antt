-- A job that has ended has ended every node that it took.
use Rattle.std.proofs.Common.{◌≡◌, ℕ, zero, suc, ◌+◌, ◌<◌, ◌≤◌, ◌≢◌, ◌⊎◌, List, length, sym, refl, ◌∙◌, subst, inl, inr, arith}
use Rattle.table.specs.declared.records.Arc.{Arc}
use Rattle.table.specs.declared.records.Node.{Node}
use Rattle.table.specs.declared.records.Region.{Region}
use Rattle.table.specs.declared.records.Region.TheVariants.{Top, Branch}
use Rattle.table.specs.declared.records.Role.TheVariants.{Opening}
use Rattle.task.specs.Graph.{role, region, IsNode, Last, Ranged}
use Rattle.task.specs.Shape.{Shaped}
use Rattle.task.proofs.Follows.{home_opens_lem, one_closing, closing_beside, one_last, exit_there}
use Rattle.workload.proofs.Inside.{opening_or_not}
use Rattle.jobs.specs.declared.node_state.NodeState.{NodeState}
use Rattle.jobs.specs.Job.{state, HasEnded, Taken, JobEnded}
use Rattle.jobs.specs.Statements.{EndedWhole}
use Rattle.jobs.proofs.Counts.{counted}
use Rattle.jobs.proofs.Entering.{ended_or_not, home_ended, taken_beside}
use Rattle.jobs.proofs.Started.{Started, ended_started}

module _ (ns : List Node) (arcs : List Arc) (job : List NodeState) (r : Ranged ns arcs) (s : Shaped ns arcs)
    (ended_taken : (v : ℕ) → HasEnded job v → Taken ns job v) (started : (v : ℕ) → HasEnded job v → Started ns arcs job v) (done : JobEnded ns arcs job) where
  -- the last node of the top region is just the one with which the job ended
  last_at_top_ended : (v : ℕ) → IsNode ns v → region ns v ≡ Top → Last ns arcs v → HasEnded job v
  last_at_top_ended v n lies last =
      let one = one_last ns arcs s Top done.last_node done.at_top in
      let same = one.no_other done.last_node (done.at_top, done.is_last) ∙ sym (one.no_other v (record { is_node = n; lies = lies }, last)) in
      subst (HasEnded job) same done.ended

  -- after v, each node that is taken has ended
  abbrev EndedAfter : ℕ → Type 0
  EndedAfter v = (w : ℕ) → v < w → IsNode ns w → Taken ns job w → HasEnded job w

  module _ (v : ℕ) (n : IsNode ns v) (t : Taken ns job v) (later : EndedAfter v) where
    opening_ends : role ns v ≡ Opening → HasEnded job v
    opening_ends op =
        let one = one_closing ns arcs s v op in
        let c = one.the_one in
        let closing = one.has_it in
        let ended = later c (r.mates_smaller c v closing.is_node closing.closes) closing.is_node (taken_beside ns job c v (closing_beside ns arcs s v c closing) t) in
        (started c ended).opening_ended v closing.closes

    last_ends : Last ns arcs v → HasEnded job v
    last_ends last = go (region ns v) refl
      where
        go : (q : Region) → region ns v ≡ q → HasEnded job v
        go Top lies = last_at_top_ended v n lies last
        go (Branch h b) lies =
            let one = one_closing ns arcs s h (home_opens_lem ns arcs s v h n (b, lies)) in
            let c = one.the_one in
            let closing = one.has_it in
            let arc = exit_there ns arcs s h v c n (b, lies) closing last in
            let home_taken = ended_taken h (b, home_ended ns job v h b lies t) in
            let ended = later c (r.arcs_forward v c arc) closing.is_node (taken_beside ns job c h (closing_beside ns arcs s h c closing) home_taken) in
            (started c ended).all_before v arc t

    -- if it has not ended, no inner arc leads on from it
    last_unless_ended : role ns v ≢ Opening → (HasEnded job v → ⊥) → Last ns arcs v
    last_unless_ended ends unended =
        record {
          ends = ends;
          none_after = λ w j i.
              let ended = later w (r.arcs_forward v w j) (r.arcs_between_nodes v w j) (taken_beside ns job w v (sym i.within) t) in
              unended ((started w ended).all_before v j t);
        }

    ends_here : HasEnded job v
    ends_here = go (opening_or_not (role ns v)) (ended_or_not (state job v))
      where
        go : (role ns v ≡ Opening) ⊎ (role ns v ≢ Opening) → HasEnded job v ⊎ (HasEnded job v → ⊥) → HasEnded job v
        go (inl op) h = opening_ends op
        go (inr ends) (inl h) = h
        go (inr ends) (inr unended) = last_ends (last_unless_ended ends unended)

  -- k bounds how many nodes come from v on
  taken_ended : (k v : ℕ) → length ns ≤ k + v → IsNode ns v → Taken ns job v → HasEnded job v
  taken_ended zero v l n t = absurd (omega arith)
  taken_ended (suc k) v l n t = ends_here v n t (λ w m. taken_ended k w (omega arith))

pub ended_whole_holds_lem : EndedWhole
ended_whole_holds_lem places ns arcs job ran r s reached done v n t =
    let c = counted ns arcs r job ran reached in
    taken_ended ns arcs job r s (λ w. (c.each w).ended_taken) (ended_started ns arcs r s job ran reached) done (length ns) v (omega arith) n t
