-- The ticks of a plan's system, from what is known of each slot: how a run goes on.
use Rattle.std.proofs.Common.{◌≡◌, ℕ, suc, ◌<◌, ◌≤◌, Bool, true, false, cond, eqb, ◌≢◌, ◌⊎◌, List, [], ◌∷◌, ◌++◌, length, replicate, sym, refl, ap, subst, inl, inr, arith}
use Rattle.std.proofs.lemmas.Bool.{cases_lt, eqb-true}
use Rattle.std.specs.List.{AllByRecursion}
use Rattle.table.specs.declared.records.Arc.{Arc}
use Rattle.table.specs.declared.records.Node.{Node}
use Rattle.table.specs.declared.records.Table.{Table}
use Rattle.task.specs.Held.{nodes_of, arcs_of}
use Rattle.bounds.specs.declared.plan.Plan.{Plan}
use Rattle.bounds.specs.Equation.{Caps}
use Rattle.jobs.specs.Job.{JobEnded, Outcome, idle as did_not_run, after, Allowed}
use Rattle.jobs.proofs.Ended.{t_job_ended}
use Rattle.timing.specs.Jobs.{Turn, turns_of}
use Rattle.timing.specs.Run.{Done, Slot, idle, busy, State, settle, work, Place, turns_for, places_of, MayHaveAt, ReadyAt, GoesAhead, MayTick}
use Rattle.timing.specs.System.{Held}
use Rattle.timing.proofs.Places.{turns_are_places, places_by_turns}
use Rattle.response.specs.Jobs.{JobState, outcome_in, advance, graph_jobs}
use Rattle.response.specs.System.{Goes, numbers_of, system_of}
use Rattle.response.proofs.Laws.{true_ended, ended_true}
use Rattle.response.proofs.Turns.{may_have_turns}

-- ---- one slot

module _ (ns : List Node) (arcs : List Arc) where
  -- the turns of a slot in a tick: with no open job there are none, and else they are an allowed tick of the job
  abbrev pub SlotAllows : List (Turn Outcome) → Slot JobState → Type 0
  SlotAllows ts (idle past) = ts ≡ []
  SlotAllows ts (busy r spent j past) = Allowed ns arcs j.states (outcome_in ts)

  slot_may_have : (ts : List (Turn Outcome)) → ((v : ℕ) → turns_of v ts ≤ 1) → AllByRecursion (λ t. t.outcome ≢ did_not_run) ts
      → (x : Slot JobState) → SlotAllows ts x → AllByRecursion (λ t. MayHaveAt (graph_jobs ns arcs) t x) ts
  slot_may_have ts once ran (idle past) none =
      let P : List (Turn Outcome) → Type 0 = λ us. AllByRecursion (λ t. MayHaveAt (graph_jobs ns arcs) t (idle past)) us in
      subst P (sym none) tt
  slot_may_have ts once ran (busy r spent j past) ok = may_have_turns ns arcs j ts once ran ok

  -- a job that ends with the tick leaves the slot idle
  pub work_ends : (t r : ℕ) (ts : List (Turn Outcome)) (spent : List ℕ) (j : JobState) (past : List Done)
      → JobEnded ns arcs (after (outcome_in ts) j.states)
      → work (graph_jobs ns arcs) t ts (busy r spent j past)
      ≡ idle (record { released = r; spent = replicate (length ts) t ++ spent; ended = suc t } ∷ past)
  work_ends t r ts spent j past ended =
      ap (λ (b : Bool). settle b (suc t) r (replicate (length ts) t ++ spent) (advance j ts) past) (true_ended ns arcs (after (outcome_in ts) j.states) ended)

  -- a job that does not end stays open, with the states after the tick
  pub work_goes_on : (t r : ℕ) (ts : List (Turn Outcome)) (spent : List ℕ) (j : JobState) (past : List Done)
      → (JobEnded ns arcs (after (outcome_in ts) j.states) → ⊥)
      → work (graph_jobs ns arcs) t ts (busy r spent j past) ≡ busy r (replicate (length ts) t ++ spent) (advance j ts) past
  work_goes_on t r ts spent j past unended =
      ap (λ (b : Bool). settle b (suc t) r (replicate (length ts) t ++ spent) (advance j ts) past)
      (false_where (t_job_ended ns arcs (after (outcome_in ts) j.states)).answer (λ e. unended (ended_true ns arcs (after (outcome_in ts) j.states) e)))
    where
      false_where : (b : Bool) → (b ≡ true → ⊥) → b ≡ false
      false_where true not = absurd (not refl)
      false_where false not = refl

-- ---- all slots

module _ (goes : Goes) (most : Caps) (p : Plan) (R : List ℕ) (tasks : ℕ → Table) (s : State (system_of goes most p R tasks)) (cs : List (Place Outcome)) where
  all_both : (P Q : Place Outcome → Type 0) (ds : List (Place Outcome)) → AllByRecursion P ds → AllByRecursion Q ds → AllByRecursion (λ c. P c × Q c) ds
  all_both P Q [] a b = tt
  all_both P Q (d ∷ ds) a b = ((a.0, b.0), all_both P Q ds a.1 b.1)

  turns_ran : (k : ℕ) (ds : List (Place Outcome)) → AllByRecursion (λ c. c.turn.outcome ≢ did_not_run) ds → AllByRecursion (λ t. t.outcome ≢ did_not_run) (turns_for k ds)
  turns_ran k [] ran = tt
  turns_ran k (d ∷ ds) ran = go (eqb k d.slot) (turns_ran k ds ran.1)
    where
      go : (b : Bool) → AllByRecursion (λ t. t.outcome ≢ did_not_run) (turns_for k ds) → AllByRecursion (λ t. t.outcome ≢ did_not_run) (cond b (d.turn ∷ turns_for k ds) (turns_for k ds))
      go true rest = (ran.0, rest)
      go false rest = rest

  no_turns_past : (k : ℕ) → 16 ≤ k → (ds : List (Place Outcome)) → AllByRecursion (λ c. c.slot < 16) ds → turns_for k ds ≡ []
  no_turns_past k l [] slots = refl
  no_turns_past k l (d ∷ ds) slots = go (eqb k d.slot) refl (no_turns_past k l ds slots.1)
    where
      go : (b : Bool) → eqb k d.slot ≡ b → turns_for k ds ≡ [] → cond b (d.turn ∷ turns_for k ds) (turns_for k ds) ≡ []
      go true e rest = absurd (omega (arith, eqb-true k d.slot e, slots.0))
      go false e rest = rest

  -- A run may have the tick: its places lie in slots, no node has two cores, there are no more places than cores, the turns of each slot are
  -- an allowed tick of its job, and no ready node waits beside a core that is idle or has a job that does not go ahead.
  pub may_tick_lem :
      AllByRecursion (λ c. c.slot < 16) cs → AllByRecursion (λ c. c.turn.outcome ≢ did_not_run) cs → ((k v : ℕ) → places_of k v cs ≤ 1) → length cs ≤ p.cores
      → ((k : ℕ) → k < 16 → SlotAllows (nodes_of (tasks k)) (arcs_of (tasks k)) (turns_for k cs) (s.slot k))
      → ((k w : ℕ) → Held (numbers_of goes most p R) k → ReadyAt (graph_jobs (nodes_of (tasks k)) (arcs_of (tasks k))) w (s.slot k) → places_of k w cs ≡ 0
      → (length cs ≡ p.cores) × AllByRecursion (λ c. (c.slot ≡ k) ⊎ GoesAhead (system_of goes most p R tasks) s c.slot k) cs)
      → MayTick (system_of goes most p R tasks) s cs
  may_tick_lem slots ran once few allows conserving =
      record {
        allowed =
            all_both (λ c. c.slot < 16) (λ c. MayHaveAt (graph_jobs (nodes_of (tasks c.slot)) (arcs_of (tasks c.slot))) c.turn (s.slot c.slot)) cs slots
            (places_by_turns (λ k t. MayHaveAt (graph_jobs (nodes_of (tasks k)) (arcs_of (tasks k))) t (s.slot k)) cs (λ k. at_slot k (cases_lt k 16)));
        once = once;
        few = few;
        work_conserving = conserving;
      }
    where
      at_slot : (k : ℕ) → (k < 16) ⊎ (16 ≤ k) → AllByRecursion (λ t. MayHaveAt (graph_jobs (nodes_of (tasks k)) (arcs_of (tasks k))) t (s.slot k)) (turns_for k cs)
      at_slot k (inl l) =
          slot_may_have (nodes_of (tasks k)) (arcs_of (tasks k)) (turns_for k cs) (λ v. omega (arith, turns_are_places k v cs, once k v)) (turns_ran k cs ran) (s.slot k)
          (allows k l)
      at_slot k (inr l) =
          let P : List (Turn Outcome) → Type 0 = AllByRecursion (λ t. MayHaveAt (graph_jobs (nodes_of (tasks k)) (arcs_of (tasks k))) t (s.slot k)) in
          subst P (sym (no_turns_past k l cs slots)) tt
