-- An outcome that fits a node's role, time, branches and state is right for it.
use Rattle.std.proofs.Common.{◌≡◌, ℕ, List, Some, None, Option, sym, subst, MatchOption}
use Rattle.jobs.specs.declared.node_state.NodeState.{NodeState}
use Rattle.jobs.specs.Job.{state, Outcome, next}
use Rattle.sets.specs.declared.bit_set.BitSet.{BitSet}
use Rattle.sets.specs.Sets.{Marks}
use Rattle.table.specs.declared.records.Node.{Node}
use Rattle.table.specs.declared.records.Role.TheVariants.{Opening}
use Rattle.task.specs.Graph.{role, time, IsNode, HasBranch}
use Rattle.dispatch.specs.Closing.{Right}
use Rattle.dispatch.specs.Moves.{Fits, MovesTo}

module _ (ns : List Node) (job : List NodeState) (v : ℕ) (branches : BitSet) (l : IsNode ns v) (m : role ns v ≡ Opening → Marks (HasBranch ns v) branches) where
  fits_right : (o : Outcome) → Fits (role ns v) (time ns v) branches (state job v) o → Right ns job v o
  fits_right o f =
      record {
        is_node = l;
        not_ended = f.not_ended;
        below_time = f.below_time;
        branch_there = λ b e r. (m r).only b (f.branch_there b e r);
        else_zero = f.else_zero;
      }

  right_fits : (o : Outcome) → Right ns job v o → Fits (role ns v) (time ns v) branches (state job v) o
  right_fits o r =
      record {
        not_ended = r.not_ended;
        below_time = r.below_time;
        branch_there = λ b e p. (m p).every b (r.branch_there b e p);
        else_zero = r.else_zero;
      }

  pub closes : (o : Outcome) (s : NodeState) (r : Option NodeState) → s ≡ state job v
      → MatchOption r (Fits (role ns v) (time ns v) branches s o → ⊥) (λ t. Fits (role ns v) (time ns v) branches s o × (t ≡ next o s)) → MovesTo ns job v o r
  closes o s None e h = λ right. h (subst (λ (x : NodeState). Fits (role ns v) (time ns v) branches x o) (sym e) (right_fits o right))
  closes o s (Some t) e h =
      record {
        right = fits_right o (subst (λ (x : NodeState). Fits (role ns v) (time ns v) branches x o) e h.0);
        moved = subst (λ (x : NodeState). t ≡ next o x) e h.1;
      }
