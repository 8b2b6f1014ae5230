-- What holds of every state that a job reaches, and of the ticks that its nodes have run.
use Rattle.std.proofs.Common.{◌≡◌, ℕ, ◌+◌, ◌<◌, ◌≤◌, ◌⊎◌, List, length, sym, refl, ◌∙◌, subst, inl, inr, arith}
use Rattle.std.proofs.lemmas.List.{length-replicate, get_or-replicate, get_or_past}
use Rattle.std.proofs.lemmas.Bool.{cases_lt}
use Rattle.table.specs.declared.records.Arc.{Arc}
use Rattle.table.specs.declared.records.Node.{Node}
use Rattle.table.specs.declared.records.Role.TheVariants.{Opening}
use Rattle.task.specs.Graph.{role, time, IsNode, HasBranch, Ranged}
use Rattle.jobs.specs.declared.node_state.NodeState.{NodeState}
use Rattle.jobs.specs.declared.node_state.NodeState.TheVariants.{Untouched, Ended}
use Rattle.jobs.specs.Job.{state, IsEnded, ticks, Taken, Outcome, idle, goes_on, ends_with, next, after, released, ran_now, Allowed, Reached, at_release, by_tick}
use Rattle.jobs.proofs.Entering.{untouched_not_ended, running_not_ended, same_end}
use Rattle.jobs.proofs.Tick.{length_after, tick_state, taken_kept, goes_on_not_idle, ready_to_end}

-- of a node in the state `here` that has run `ran` ticks
pub record NodeCounted (ns : List Node) (job : List NodeState) (v ran : ℕ) (here : NodeState) : Type 0 where
  pub ended_taken : IsEnded here → Taken ns job v
  pub ended_branch : (b : ℕ) → here ≡ Ended b → role ns v ≡ Opening → HasBranch ns v b
  pub ran_taken : 0 < ran → Taken ns job v
  pub ran_ticks : (IsEnded here → ⊥) → ran ≡ ticks here
  pub ran_below : IsNode ns v → (IsEnded here → ⊥) → ran < time ns v
  pub ran_within : ran ≤ time ns v

pub record Counted (places : ℕ) (ns : List Node) (job : List NodeState) (ran : ℕ → ℕ) : Type 0 where
  pub long : length job ≡ places
  pub room : length ns ≤ length job
  pub each : (v : ℕ) → NodeCounted ns job v (ran v) (state job v)

pub state_released : (places v : ℕ) → state (released places) v ≡ Untouched
state_released places v = go (cases_lt v places)
  where
    go : (v < places) ⊎ (places ≤ v) → state (released places) v ≡ Untouched
    go (inl l) = get_or-replicate places v Untouched Untouched l
    go (inr l) = get_or_past (released places) v Untouched (omega (arith, length-replicate places Untouched))

untouched_counted : (ns : List Node) (arcs : List Arc) → Ranged ns arcs → (job : List NodeState) (v : ℕ) → NodeCounted ns job v 0 Untouched
untouched_counted ns arcs r job v =
    record {
      ended_taken = λ e. absurd (untouched_not_ended e.0 e.1);
      ended_branch = λ b e op. absurd (untouched_not_ended b e);
      ran_taken = λ l. absurd (omega arith);
      ran_ticks = λ h. refl;
      ran_below = λ n h. r.times_positive v n;
      ran_within = omega arith;
    }

module _ {places : ℕ} (ns : List Node) (arcs : List Arc) (job : List NodeState) (ran : ℕ → ℕ) (outcome : ℕ → Outcome) (c : Counted places ns job ran) (ok : Allowed ns arcs job outcome) where
  -- one node over one tick, by its outcome
  node_counted : (v : ℕ) (o : Outcome) → outcome v ≡ o → NodeCounted ns (after outcome job) v (ran v + ran_now o) (next o (state job v))
  node_counted v idle e =
      let kept = taken_kept ns arcs job outcome c.room ok v in
      let was = c.each v in
      record {
        ended_taken = λ h. kept (was.ended_taken h);
        ended_branch = was.ended_branch;
        ran_taken = λ l. kept (was.ran_taken (omega arith));
        ran_ticks = λ h. omega (arith, was.ran_ticks h);
        ran_below = λ n h. omega (arith, was.ran_below n h);
        ran_within = omega (arith, was.ran_within);
      }
  node_counted v goes_on e =
      let ready = ok.only_ready v (λ i. goes_on_not_idle (sym e ∙ i)) in
      let taken = taken_kept ns arcs job outcome c.room ok v ready.taken in
      let same = (c.each v).ran_ticks ready.not_ended in
      let below = ok.below_time v e in
      record {
        ended_taken = λ h. taken;
        ended_branch = λ b h op. absurd (running_not_ended _ b h);
        ran_taken = λ l. taken;
        ran_ticks = λ h. omega arith;
        ran_below = λ n h. omega arith;
        ran_within = omega arith;
      }
  node_counted v (ends_with b) e =
      let ready = ready_to_end ns arcs job outcome c.room ok v b e in
      let taken = taken_kept ns arcs job outcome c.room ok v ready.taken in
      let below = (c.each v).ran_below ready.is_node ready.not_ended in
      record {
        ended_taken = λ h. taken;
        ended_branch = λ d h op. subst (HasBranch ns v) (same_end b d h) (ok.branch_there v b e op);
        ran_taken = λ l. taken;
        ran_ticks = λ h. absurd (h (b, refl));
        ran_below = λ n h. absurd (h (b, refl));
        ran_within = omega arith;
      }

  counted_after : Counted places ns (after outcome job) (λ v. ran v + ran_now (outcome v))
  counted_after =
      record {
        long = length_after outcome job ∙ c.long;
        room = omega (arith, length_after outcome job, c.room);
        each = λ v.
            subst (NodeCounted ns (after outcome job) v (ran v + ran_now (outcome v))) (sym (tick_state ns arcs job outcome c.room ok v))
            (node_counted v (outcome v) refl);
      }

pub counted : {places : ℕ} (ns : List Node) (arcs : List Arc) → Ranged ns arcs → (job : List NodeState) (ran : ℕ → ℕ) → Reached places ns arcs job ran → Counted places ns job ran
counted {places} ns arcs r _ _ (at_release room) =
    record {
      long = length-replicate places Untouched;
      room = omega (arith, length-replicate places Untouched, room);
      each = λ v. subst (NodeCounted ns (released places) v 0) (sym (state_released places v)) (untouched_counted ns arcs r (released places) v);
    }
counted ns arcs r _ _ (by_tick {job} {ran} before outcome ok) = counted_after ns arcs job ran outcome (counted ns arcs r job ran before) ok
