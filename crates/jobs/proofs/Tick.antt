-- What one tick changes.
use Rattle.std.proofs.Common.{◌≡◌, ℕ, zero, suc, ◌<◌, ◌≤◌, ◌≢◌, ◌⊎◌, List, [], ◌∷◌, length, sym, refl, ap, ◌∙◌, inl, inr, le_of_suc-le-suc, not-suc-le-zero, arith}
use Rattle.std.proofs.lemmas.List.{get_or_past}
use Rattle.std.proofs.lemmas.Bool.{cases_lt}
use Rattle.table.specs.declared.records.Arc.{Arc}
use Rattle.table.specs.declared.records.Node.{Node}
use Rattle.table.specs.declared.records.Region.{Region}
use Rattle.table.specs.declared.records.Region.TheVariants.{Top, Branch}
use Rattle.task.specs.Graph.{region}
use Rattle.jobs.specs.declared.node_state.NodeState.{NodeState}
use Rattle.jobs.specs.declared.node_state.NodeState.TheVariants.{Untouched, Ended}
use Rattle.jobs.specs.Job.{state, HasEnded, Entered, Taken, Ready, Outcome, idle, goes_on, ends_with, next, after, Allowed}
use Rattle.jobs.proofs.Entering.{running_not_ended, same_end}

pub length_after : (outcome : ℕ → Outcome) (job : List NodeState) → length (after outcome job) ≡ length job
length_after outcome [] = refl
length_after outcome (s ∷ job) = ap suc (length_after (λ v. outcome (suc v)) job)

state_after : (outcome : ℕ → Outcome) (job : List NodeState) (v : ℕ) → v < length job → state (after outcome job) v ≡ next (outcome v) (state job v)
state_after outcome [] v l = absurd (not-suc-le-zero l)
state_after outcome (s ∷ job) zero l = refl
state_after outcome (s ∷ job) (suc v) l = state_after (λ u. outcome (suc u)) job v (le_of_suc-le-suc l)

pub goes_on_not_idle : goes_on ≢ idle
goes_on_not_idle e = cc

pub ends_not_idle : (b : ℕ) → ends_with b ≢ idle
ends_not_idle b e = cc

pub idle_or_not : (o : Outcome) → (o ≡ idle) ⊎ (o ≢ idle)
idle_or_not idle = inl refl
idle_or_not goes_on = inr goes_on_not_idle
idle_or_not (ends_with b) = inr (ends_not_idle b)

-- ended after the tick: ended before, or the outcome says so
ended_next : (o : Outcome) (s : NodeState) (b : ℕ) → next o s ≡ Ended b → (s ≡ Ended b) ⊎ (o ≡ ends_with b)
ended_next idle s b e = inl e
ended_next goes_on s b e = absurd (running_not_ended _ b e)
ended_next (ends_with c) s b e = inr (ap ends_with (same_end c b e))

module _ (ns : List Node) (arcs : List Arc) (job : List NodeState) (outcome : ℕ → Outcome) (room : length ns ≤ length job) (ok : Allowed ns arcs job outcome) where
  pub tick_state : (v : ℕ) → state (after outcome job) v ≡ next (outcome v) (state job v)
  tick_state v = go (cases_lt v (length job)) (idle_or_not (outcome v))
    where
      go : (v < length job) ⊎ (length job ≤ v) → (outcome v ≡ idle) ⊎ (outcome v ≢ idle) → state (after outcome job) v ≡ next (outcome v) (state job v)
      go (inl l) d = state_after outcome job v l
      go (inr l) (inl i) =
          get_or_past (after outcome job) v Untouched (omega (arith, length_after outcome job)) ∙ sym (get_or_past job v Untouched l)
          ∙ ap (λ (o : Outcome). next o (state job v)) (sym i)
      go (inr l) (inr i) = absurd (omega (arith, (ok.only_ready v i).is_node))

  -- what has ended does not run, and stays as it is
  pub ended_stays : (v : ℕ) → HasEnded job v → state (after outcome job) v ≡ state job v
  ended_stays v h = go (idle_or_not (outcome v))
    where
      go : (outcome v ≡ idle) ⊎ (outcome v ≢ idle) → state (after outcome job) v ≡ state job v
      go (inl i) = tick_state v ∙ ap (λ (o : Outcome). next o (state job v)) i
      go (inr i) = absurd ((ok.only_ready v i).not_ended h)

  pub ended_kept : (v : ℕ) → HasEnded job v → HasEnded (after outcome job) v
  ended_kept v (b, e) = (b, ended_stays v (b, e) ∙ e)

  entered_kept : (r : Region) → Entered job r → Entered (after outcome job) r
  entered_kept Top p = tt
  entered_kept (Branch h b) p = ended_stays h (b, p) ∙ p

  pub taken_kept : (v : ℕ) → Taken ns job v → Taken ns (after outcome job) v
  taken_kept v t = entered_kept (region ns v) t

  pub ended_why : (v b : ℕ) → state (after outcome job) v ≡ Ended b → (state job v ≡ Ended b) ⊎ (outcome v ≡ ends_with b)
  ended_why v b e = ended_next (outcome v) (state job v) b (sym (tick_state v) ∙ e)

  pub ended_now : (v b : ℕ) → outcome v ≡ ends_with b → state (after outcome job) v ≡ Ended b
  ended_now v b now = tick_state v ∙ ap (λ (o : Outcome). next o (state job v)) now

  -- what ends in the tick was ready
  pub ready_to_end : (v b : ℕ) → outcome v ≡ ends_with b → Ready ns arcs job v
  ready_to_end v b now = ok.only_ready v (λ i. ends_not_idle b (sym now ∙ i))
