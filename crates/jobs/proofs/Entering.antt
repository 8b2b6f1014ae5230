-- Which nodes of a job have ended, and which are taken.
use Rattle.std.proofs.Common.{◌≡◌, ℕ, ◌≢◌, ◌⊎◌, List, sym, refl, ap, subst, inl, inr}
use Rattle.std.proofs.lemmas.Bool.{cases_eq}
use Rattle.table.specs.declared.records.Node.{Node}
use Rattle.table.specs.declared.records.Region.{Region}
use Rattle.table.specs.declared.records.Region.TheVariants.{Top, Branch}
use Rattle.task.specs.Graph.{region}
use Rattle.jobs.specs.declared.node_state.NodeState.{NodeState}
use Rattle.jobs.specs.declared.node_state.NodeState.TheVariants.{Untouched, Running, Ended}
use Rattle.jobs.specs.Job.{state, IsEnded, Entered, Taken}

pub untouched_not_ended : (b : ℕ) → Untouched ≢ Ended b
untouched_not_ended b e = cc

pub running_not_ended : (t b : ℕ) → Running t ≢ Ended b
running_not_ended t b e = cc

pub same_end : (c b : ℕ) → Ended c ≡ Ended b → c ≡ b
same_end c b e = cc

pub ended_or_not : (s : NodeState) → IsEnded s ⊎ (IsEnded s → ⊥)
ended_or_not Untouched = inr (λ e. untouched_not_ended e.0 e.1)
ended_or_not (Running t) = inr (λ e. running_not_ended t e.0 e.1)
ended_or_not (Ended b) = inl (b, refl)

ended_with_or_not : (s : NodeState) (b : ℕ) → (s ≡ Ended b) ⊎ (s ≢ Ended b)
ended_with_or_not Untouched b = inr (untouched_not_ended b)
ended_with_or_not (Running t) b = inr (running_not_ended t b)
ended_with_or_not (Ended c) b = go (cases_eq c b)
  where
    go : (c ≡ b) ⊎ (c ≡ b → ⊥) → (Ended c ≡ Ended b) ⊎ (Ended c ≢ Ended b)
    go (inl e) = inl (ap Ended e)
    go (inr d) = inr (λ e. d (same_end c b e))

entered_or_not : (job : List NodeState) (r : Region) → Entered job r ⊎ (Entered job r → ⊥)
entered_or_not job Top = inl tt
entered_or_not job (Branch h b) = ended_with_or_not (state job h) b

module _ (ns : List Node) (job : List NodeState) where
  pub taken_or_not : (v : ℕ) → Taken ns job v ⊎ (Taken ns job v → ⊥)
  taken_or_not v = entered_or_not job (region ns v)

  pub taken_at_top : (v : ℕ) → region ns v ≡ Top → Taken ns job v
  taken_at_top v e = subst (Entered job) (sym e) tt

  pub taken_by_home : (v h b : ℕ) → region ns v ≡ Branch h b → state job h ≡ Ended b → Taken ns job v
  taken_by_home v h b e p = subst (Entered job) (sym e) p

  pub home_ended : (v h b : ℕ) → region ns v ≡ Branch h b → Taken ns job v → state job h ≡ Ended b
  home_ended v h b e t = subst (Entered job) e t

  -- the nodes of a region are taken together
  pub taken_beside : (u v : ℕ) → region ns u ≡ region ns v → Taken ns job v → Taken ns job u
  taken_beside u v e t = subst (Entered job) (sym e) t
