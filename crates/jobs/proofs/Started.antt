-- What has started, ready or ended, has all before it ended.
use Rattle.std.proofs.Common.{◌≡◌, ℕ, ◌<◌, ◌≤◌, ◌≢◌, ◌⊎◌, List, length, sym, ap, ◌∙◌, inl, inr, arith}
use Rattle.table.specs.declared.records.Arc.{Arc}
use Rattle.table.specs.declared.records.Node.{Node}
use Rattle.table.specs.declared.records.Region.TheVariants.{Branch}
use Rattle.table.specs.declared.records.Role.TheVariants.{Closing}
use Rattle.task.specs.Graph.{role, region, Joined, OfAKind, Ranged}
use Rattle.task.specs.Shape.{Shaped}
use Rattle.task.proofs.Follows.{arc_kind}
use Rattle.jobs.specs.declared.node_state.NodeState.{NodeState}
use Rattle.jobs.specs.declared.node_state.NodeState.TheVariants.{Ended}
use Rattle.jobs.specs.Job.{state, HasEnded, Taken, Ready, Outcome, idle, ends_with, after, Allowed, ran_now, Reached, at_release, by_tick}
use Rattle.jobs.proofs.Counts.{counted, state_released}
use Rattle.jobs.proofs.Entering.{untouched_not_ended, taken_by_home, home_ended, taken_beside}
use Rattle.jobs.proofs.Tick.{idle_or_not, ended_stays, ended_kept, taken_kept, ended_why, ready_to_end}

pub record Started (ns : List Node) (arcs : List Arc) (job : List NodeState) (v : ℕ) : Type 0 where
  pub taken : Taken ns job v
  pub all_before : (u : ℕ) → Joined arcs u v → Taken ns job u → HasEnded job u
  pub opening_ended : (o : ℕ) → role ns v ≡ Closing o → HasEnded job o

pub ready_started : (ns : List Node) (arcs : List Arc) (job : List NodeState) (v : ℕ) → Ready ns arcs job v → Started ns arcs job v
ready_started ns arcs job v ready = record { taken = ready.taken; all_before = ready.all_before; opening_ended = ready.opening_ended }

module _ (ns : List Node) (arcs : List Arc) (job : List NodeState) (outcome : ℕ → Outcome) (s : Shaped ns arcs)
    (room : length ns ≤ length job) (ok : Allowed ns arcs job outcome) where
  -- where its home had ended before the tick, a node that is taken after it was taken before
  taken_before : (u h b : ℕ) → region ns u ≡ Branch h b → HasEnded job h → Taken ns (after outcome job) u → Taken ns job u
  taken_before u h b lies ended t =
      taken_by_home ns job u h b lies (sym (ended_stays ns arcs job outcome room ok h ended) ∙ home_ended ns (after outcome job) u h b lies t)

  ended_before : (u v : ℕ) → Started ns arcs job v → Joined arcs u v → OfAKind ns u v → Taken ns (after outcome job) u → HasEnded job u
  ended_before u v st j (inl k) t = st.all_before u j (taken_beside ns job u v k.within st.taken)
  ended_before u v st j (inr (inl k)) t = (k.inside.0, home_ended ns job v u k.inside.0 k.inside.1 st.taken)
  ended_before u v st j (inr (inr k)) t =
      st.all_before u j (taken_before u k.home k.inside.0 k.inside.1 (st.opening_ended k.home k.closes) t)

  started_kept : (v : ℕ) → Started ns arcs job v → Started ns arcs (after outcome job) v
  started_kept v st =
      record {
        taken = taken_kept ns arcs job outcome room ok v st.taken;
        all_before = λ u j t. ended_kept ns arcs job outcome room ok u (ended_before u v st j (arc_kind ns arcs s u v j) t);
        opening_ended = λ o e. ended_kept ns arcs job outcome room ok o (st.opening_ended o e);
      }

module _ (ns : List Node) (arcs : List Arc) (r : Ranged ns arcs) (s : Shaped ns arcs) where
  pub ended_started : {places : ℕ} (job : List NodeState) (ran : ℕ → ℕ) → Reached places ns arcs job ran → (v : ℕ) → HasEnded job v → Started ns arcs job v
  ended_started {places} _ _ (at_release _) v (b, e) = absurd (untouched_not_ended b (sym (state_released places v) ∙ e))
  ended_started _ _ (by_tick {job} {ran} before outcome ok) v (b, e) =
      started_kept ns arcs job outcome s room ok v (go (ended_why ns arcs job outcome room ok v b e) (ended_started job ran before v))
    where
      room : length ns ≤ length job
      room = (counted ns arcs r job ran before).room

      go : (state job v ≡ Ended b) ⊎ (outcome v ≡ ends_with b) → (HasEnded job v → Started ns arcs job v) → Started ns arcs job v
      go (inl old) earlier = earlier (b, old)
      go (inr now) earlier = ready_started ns arcs job v (ready_to_end ns arcs job outcome room ok v b now)

  -- what has run has started too
  pub ran_started : {places : ℕ} (job : List NodeState) (ran : ℕ → ℕ) → Reached places ns arcs job ran → (v : ℕ) → 0 < ran v → Started ns arcs job v
  ran_started _ _ (at_release _) v l = absurd (omega arith)
  ran_started _ _ (by_tick {job} {ran} before outcome ok) v l =
      started_kept ns arcs job outcome s (counted ns arcs r job ran before).room ok v (go (idle_or_not (outcome v)) (ran_started job ran before v))
    where
      go : (outcome v ≡ idle) ⊎ (outcome v ≢ idle) → (0 < ran v → Started ns arcs job v) → Started ns arcs job v
      go (inl i) earlier = earlier (omega (arith, ap ran_now i))
      go (inr now) earlier = ready_started ns arcs job v (ok.only_ready v now)
