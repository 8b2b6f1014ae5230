-- A node that is ready after a tick was ready before, or a node with an arc to it ended in the tick.
use Rattle.std.proofs.Common.{◌≡◌, ℕ, ◌<◌, ◌≤◌, true, false, ◌⊎◌, List, length, sym, refl, ◌∙◌, subst, inl, inr}
use Rattle.std.proofs.lemmas.Bool.{cases_Bool}
use Rattle.std.proofs.lemmas.Bool.Decides.{not_from_Decides}
use Rattle.table.specs.declared.records.Arc.{Arc}
use Rattle.table.specs.declared.records.Node.{Node}
use Rattle.table.specs.declared.records.Region.{Region}
use Rattle.table.specs.declared.records.Region.TheVariants.{Top, Branch}
use Rattle.table.specs.declared.records.Role.TheVariants.{Closing}
use Rattle.task.specs.Graph.{role, region, from, to, ClosingOf, First, Ranged}
use Rattle.task.specs.Shape.{Shaped}
use Rattle.task.proofs.Computed.{Test, t_like, t_and, t_eq, t_some, yes_test, no_test}
use Rattle.task.proofs.Follows.{mate_opens, closing_beside, one_last, entry_there, exit_there}
use Rattle.jobs.specs.declared.node_state.NodeState.{NodeState}
use Rattle.jobs.specs.declared.node_state.NodeState.TheVariants.{Ended}
use Rattle.jobs.specs.Job.{state, HasEnded, Taken, Ready, Outcome, idle, goes_on, ends_with, Ends, after, Allowed}
use Rattle.jobs.specs.Statements.{LedByEnd, Step}
use Rattle.jobs.proofs.Counts.{counted}
use Rattle.jobs.proofs.Entering.{taken_at_top, taken_by_home, home_ended, taken_beside}
use Rattle.jobs.proofs.Tick.{ended_kept, taken_kept, ended_why, ended_now, ready_to_end}

t_ends : (o : Outcome) → Test (Ends o)
t_ends idle = no_test (λ h. let e = h.1 in cc)
t_ends goes_on = no_test (λ h. let e = h.1 in cc)
t_ends (ends_with b) = yes_test (b, refl)

-- the arc at the place k leads to w from a node that ended in the tick
abbrev LeadsFromEnd : List Arc → (ℕ → Outcome) → ℕ → ℕ → Type 0
LeadsFromEnd arcs outcome w k = (to arcs k ≡ w) × Ends (outcome (from arcs k))

led_by_arc : (arcs : List Arc) (outcome : ℕ → Outcome) (w : ℕ) → (k : ℕ) × (k < length arcs) × LeadsFromEnd arcs outcome w k → LedByEnd arcs outcome w
led_by_arc arcs outcome w (k, l, (stops, ends)) = record { leader = from arcs k; joined = (k, record { is_arc = l; starts = refl; stops = stops }); ends = ends }

arc_of_led : (arcs : List Arc) (outcome : ℕ → Outcome) (w : ℕ) → LedByEnd arcs outcome w → (k : ℕ) × (k < length arcs) × LeadsFromEnd arcs outcome w k
arc_of_led arcs outcome w led =
    let arc = led.joined.1 in
    (led.joined.0, arc.is_arc, (arc.stops, subst (λ (u : ℕ). Ends (outcome u)) (sym arc.starts) led.ends))

t_led : (arcs : List Arc) (outcome : ℕ → Outcome) (w : ℕ) → Test (LedByEnd arcs outcome w)
t_led arcs outcome w =
    t_like (led_by_arc arcs outcome w) (arc_of_led arcs outcome w)
    (t_some (length arcs) (LeadsFromEnd arcs outcome w) (λ k. t_and (t_eq (to arcs k) w) (t_ends (outcome (from arcs k)))))

module _ (ns : List Node) (arcs : List Arc) (job : List NodeState) (outcome : ℕ → Outcome) (r : Ranged ns arcs) (s : Shaped ns arcs)
    (room : length ns ≤ length job) (ended_taken : (v : ℕ) → HasEnded job v → Taken ns job v) (ok : Allowed ns arcs job outcome) where
  -- where the home had not ended before the tick, no node of its branches has ended after it
  fresh_branch : (v h b : ℕ) → region ns v ≡ Branch h b → (HasEnded job h → ⊥) → HasEnded (after outcome job) v → ⊥
  fresh_branch v h b lies fresh (d, e) = go (ended_why ns arcs job outcome room ok v d e)
    where
      go : (state job v ≡ Ended d) ⊎ (outcome v ≡ ends_with d) → ⊥
      go (inl old) = fresh (b, home_ended ns job v h b lies (ended_taken v (d, old)))
      go (inr now) = fresh (b, home_ended ns job v h b lies (ready_to_end ns arcs job outcome room ok v d now).taken)

  module _ (w : ℕ) (ready : Ready ns arcs (after outcome job) w) (none : LedByEnd arcs outcome w → ⊥) where
    -- the home of w did not end in this tick: else w would be the first of its branch, with an entry arc from the home
    home_not_now : (h b : ℕ) → region ns w ≡ Branch h b → outcome h ≡ ends_with b → ⊥
    home_not_now h b lies now =
        let fresh = (ready_to_end ns arcs job outcome room ok h b now).not_ended in
        let first : First ns arcs w =
        record {
          begins = λ o c.
              let beside = closing_beside ns arcs s o w (record { is_node = ready.is_node; closes = c }) in
              fresh_branch o h b (sym beside ∙ lies) fresh (ready.opening_ended o c);
          none_before = λ u j i.
              fresh_branch u h b (i.within ∙ lies) fresh (ready.all_before u j (taken_beside ns (after outcome job) u w i.within ready.taken));
        } in
        none (record { leader = h; joined = entry_there ns arcs s h w ready.is_node (b, lies) first; ends = (b, now) })

    taken_before : Taken ns job w
    taken_before = go (region ns w) refl
      where
        by_home : (h b : ℕ) → region ns w ≡ Branch h b → (state job h ≡ Ended b) ⊎ (outcome h ≡ ends_with b) → Taken ns job w
        by_home h b lies (inl old) = taken_by_home ns job w h b lies old
        by_home h b lies (inr now) = absurd (home_not_now h b lies now)

        go : (q : Region) → region ns w ≡ q → Taken ns job w
        go Top lies = taken_at_top ns job w lies
        go (Branch h b) lies =
            by_home h b lies (ended_why ns arcs job outcome room ok h b (home_ended ns (after outcome job) w h b lies ready.taken))

    -- nor did the opening of w, if w is a closing: else the last of the branch picked would be taken and would not have ended
    opening_not_now : (o b : ℕ) → role ns w ≡ Closing o → outcome o ≡ ends_with b → ⊥
    opening_not_now o b c now =
        let closing : ClosingOf ns o w = record { is_node = ready.is_node; closes = c } in
        let there = ok.branch_there o b now (mate_opens ns arcs s o w closing) in
        let one = one_last ns arcs s (Branch o b) there.0 there.1 in
        let v = one.the_one in
        let at = one.has_it.0 in
        let arc = exit_there ns arcs s o v w at.is_node (b, at.lies) closing one.has_it.1 in
        let taken = taken_by_home ns (after outcome job) v o b at.lies (ended_now ns arcs job outcome room ok o b now) in
        fresh_branch v o b at.lies (ready_to_end ns arcs job outcome room ok o b now).not_ended (ready.all_before v arc taken)

    ended_before : (u : ℕ) → ((b : ℕ) → outcome u ≡ ends_with b → ⊥) → HasEnded (after outcome job) u → HasEnded job u
    ended_before u not-now (b, e) = go (ended_why ns arcs job outcome room ok u b e)
      where
        go : (state job u ≡ Ended b) ⊎ (outcome u ≡ ends_with b) → HasEnded job u
        go (inl old) = (b, old)
        go (inr now) = absurd (not-now b now)

    ready_before : Ready ns arcs job w
    ready_before =
        record {
          is_node = ready.is_node;
          taken = taken_before;
          not_ended = λ h. ready.not_ended (ended_kept ns arcs job outcome room ok w h);
          all_before = λ u j t.
              ended_before u (λ b now. none (record { leader = u; joined = j; ends = (b, now) }))
              (ready.all_before u j (taken_kept ns arcs job outcome room ok u t));
          opening_ended = λ o c. ended_before o (λ b now. opening_not_now o b c now) (ready.opening_ended o c);
        }

  ready_or_led : (w : ℕ) → Ready ns arcs (after outcome job) w → Ready ns arcs job w ⊎ LedByEnd arcs outcome w
  ready_or_led w ready = go (cases_Bool (t_led arcs outcome w).answer)
    where
      go : ((t_led arcs outcome w).answer ≡ true) ⊎ ((t_led arcs outcome w).answer ≡ false) → Ready ns arcs job w ⊎ LedByEnd arcs outcome w
      go (inl led) = inr ((t_led arcs outcome w).decides.0 led)
      go (inr unled) = inl (ready_before w ready (not_from_Decides (t_led arcs outcome w).answer (t_led arcs outcome w).decides unled))

pub step_holds_lem : Step
step_holds_lem places ns arcs job ran outcome r s reached ok w ready =
    let c = counted ns arcs r job ran reached in
    ready_or_led ns arcs job outcome r s c.room (λ v. (c.each v).ended_taken) ok w ready
