-- The turns of one tick of a job, and the outcome that each node has by them.
use Rattle.std.proofs.Common.{◌≡◌, ℕ, ◌+◌, ◌<◌, ◌≤◌, Bool, true, false, cond, eqb, ◌≢◌, ◌⊎◌, List, [], ◌∷◌, length, sym, refl, ap, ◌∙◌, inl, inr, arith}
use mathlib.Core.Path.{fun_ext}
use Rattle.std.proofs.lemmas.Bool.Decides.{nat_tests}
use Rattle.std.proofs.lemmas.Bool.{eqb-true}
use Rattle.std.specs.List.{AllByRecursion}
use Rattle.table.specs.declared.records.Arc.{Arc}
use Rattle.table.specs.declared.records.Node.{Node}
use Rattle.workload.specs.Measures.{sum_below}
use Rattle.workload.proofs.Sums.{sum_below_same, sum_below_one}
use Rattle.jobs.specs.declared.node_state.NodeState.{NodeState}
use Rattle.jobs.specs.Job.{Outcome, idle, goes_on, ends_with, after, Allowed, ran_now}
use Rattle.jobs.proofs.Tick.{goes_on_not_idle, ends_not_idle}
use Rattle.timing.specs.Counts.{bit}
use Rattle.timing.specs.Jobs.{Turn, turns_of, MayHave}
use Rattle.response.specs.Jobs.{JobState, outcome_in, advance, graph_jobs}

-- ---- the outcome of a node

-- outcomes that agree make the same job
pub after_same : (f g : ℕ → Outcome) → ((v : ℕ) → f v ≡ g v) → (job : List NodeState) → after f job ≡ after g job
after_same f g same job = ap (λ (h : ℕ → Outcome). after h job) (fun_ext same)

-- the job after a tick, by any function that tells the outcomes of its turns
pub advance_states : (j : JobState) (ts : List (Turn Outcome)) (f : ℕ → Outcome) → ((v : ℕ) → outcome_in ts v ≡ f v) → (advance j ts).states ≡ after f j.states
advance_states j ts f same = after_same (outcome_in ts) f same j.states

-- a node without a turn did not run
pub no_turn_idle : (ts : List (Turn Outcome)) (v : ℕ) → turns_of v ts ≡ 0 → outcome_in ts v ≡ idle
no_turn_idle [] v none = refl
no_turn_idle (t ∷ ts) v none = go (eqb v t.node) none (no_turn_idle ts v)
  where
    go : (b : Bool) → bit b + turns_of v ts ≡ 0 → (turns_of v ts ≡ 0 → outcome_in ts v ≡ idle) → cond b t.outcome (outcome_in ts v) ≡ idle
    go true some rest = absurd (omega arith)
    go false none rest = rest (omega arith)

-- a node that ran has a turn
pub ran_turn : (ts : List (Turn Outcome)) (v : ℕ) → outcome_in ts v ≢ idle → 1 ≤ turns_of v ts
ran_turn [] v ran = absurd (ran refl)
ran_turn (t ∷ ts) v ran = go (eqb v t.node) ran (ran_turn ts v)
  where
    go : (b : Bool) → cond b t.outcome (outcome_in ts v) ≢ idle → (outcome_in ts v ≢ idle → 1 ≤ turns_of v ts) → 1 ≤ bit b + turns_of v ts
    go true ran rest = omega arith
    go false ran rest = omega (arith, rest ran)

-- a node that ran has its outcome by a turn of the list
pub turn_of_outcome : (P : Turn Outcome → Type 0) (ts : List (Turn Outcome)) → AllByRecursion P ts → (v : ℕ) → outcome_in ts v ≢ idle
    → (t : Turn Outcome) × P t × (outcome_in (t ∷ []) v ≡ outcome_in ts v)
turn_of_outcome P [] all v ran = absurd (ran refl)
turn_of_outcome P (t ∷ ts) all v ran = go (eqb v t.node) refl ran (turn_of_outcome P ts all.1 v)
  where
    go : (b : Bool) → eqb v t.node ≡ b → cond b t.outcome (outcome_in ts v) ≢ idle
        → (outcome_in ts v ≢ idle → (u : Turn Outcome) × P u × (outcome_in (u ∷ []) v ≡ outcome_in ts v))
        → (u : Turn Outcome) × P u × (outcome_in (u ∷ []) v ≡ cond b t.outcome (outcome_in ts v))
    go true e ran rest = (t, all.0, ap (λ (b : Bool). cond b t.outcome idle) e)
    go false e ran rest = rest ran

same_number : (v : ℕ) → eqb v v ≡ true
same_number v = grind (arith, nat_tests)

-- each turn of the list counts
pub each_counts : (ts : List (Turn Outcome)) → AllByRecursion (λ t. 1 ≤ turns_of t.node ts) ts
each_counts [] = tt
each_counts (t ∷ ts) = (omega (arith, ap bit (same_number t.node)), more ts (each_counts ts))
  where
    more : (us : List (Turn Outcome)) → AllByRecursion (λ u. 1 ≤ turns_of u.node ts) us → AllByRecursion (λ u. 1 ≤ turns_of u.node (t ∷ ts)) us
    more [] all = tt
    more (u ∷ us) all = (omega (arith, all.0), more us all.1)

-- where no node has two turns, each turn's outcome is its node's
pub outcome_of_turn : (ts : List (Turn Outcome)) → ((v : ℕ) → turns_of v ts ≤ 1) → AllByRecursion (λ t. outcome_in ts t.node ≡ t.outcome) ts
outcome_of_turn [] once = tt
outcome_of_turn (t ∷ ts) once = (
  ap (λ (b : Bool). cond b t.outcome (outcome_in ts t.node)) (same_number t.node),
  more ts (each_counts ts) (outcome_of_turn ts (λ v. omega (arith, once v))),
)
  where
    other : (u : ℕ) → 1 ≤ turns_of u ts → (b : Bool) → eqb u t.node ≡ b → b ≡ false
    other u counts true e = absurd (omega (arith, once u, ap bit e))
    other u counts false e = refl

    more : (us : List (Turn Outcome)) → AllByRecursion (λ u. 1 ≤ turns_of u.node ts) us → AllByRecursion (λ u. outcome_in ts u.node ≡ u.outcome) us
        → AllByRecursion (λ u. outcome_in (t ∷ ts) u.node ≡ u.outcome) us
    more [] counts all = tt
    more (u ∷ us) counts all = (
      ap (λ (b : Bool). cond b t.outcome (outcome_in ts u.node)) (other u.node counts.0 (eqb u.node t.node) refl) ∙ all.0,
      more us counts.1 all.1,
    )

ran_one : (o : Outcome) → o ≢ idle → ran_now o ≡ 1
ran_one idle ran = absurd (ran refl)
ran_one goes_on ran = refl
ran_one (ends_with b) ran = refl

-- a node ran as many ticks as it has turns
pub ran_turns : (ts : List (Turn Outcome)) → AllByRecursion (λ t. t.outcome ≢ idle) ts → (v : ℕ) → turns_of v ts ≤ 1 → ran_now (outcome_in ts v) ≡ turns_of v ts
ran_turns [] all v once = refl
ran_turns (t ∷ ts) all v once = go (eqb v t.node) once (ran_turns ts all.1 v)
  where
    go : (b : Bool) → bit b + turns_of v ts ≤ 1 → (turns_of v ts ≤ 1 → ran_now (outcome_in ts v) ≡ turns_of v ts)
        → ran_now (cond b t.outcome (outcome_in ts v)) ≡ bit b + turns_of v ts
    go true once rest = omega (arith, ran_one t.outcome all.0)
    go false once rest = omega (arith, rest (omega arith))

-- all nodes together ran as many ticks as there are turns
pub all_ran : (n : ℕ) (ran : ℕ → ℕ) (ts : List (Turn Outcome)) → AllByRecursion (λ t. t.node < n) ts → sum_below n (λ v. ran v + turns_of v ts) ≡ sum_below n ran + length ts
all_ran n ran [] all = omega (arith, sum_below_same (λ v. ran v + 0) ran n (λ v l. omega arith))
all_ran n ran (t ∷ ts) all =
    omega (
      arith,
      all_ran n ran ts all.1,
      sum_below_one (λ v. ran v + turns_of v ts) (λ v. ran v + turns_of v (t ∷ ts)) t.node 1 n all.0
          (omega (arith, ap bit (same_number t.node))) (λ v l other. omega (arith, differs v t.node other)),
    )
  where
    differs : (a b : ℕ) → a ≢ b → bit (eqb a b) ≡ 0
    differs a b h = grind (arith, nat_tests)

-- ---- outcomes that are allowed

module _ (ns : List Node) (arcs : List Arc) (job : List NodeState) where
  -- a tick in which fewer nodes ran is allowed too
  pub allowed_fewer : (f g : ℕ → Outcome) → Allowed ns arcs job f → ((v : ℕ) → (g v ≡ idle) ⊎ (g v ≡ f v)) → Allowed ns arcs job g
  allowed_fewer f g ok part =
      record {
        only_ready = λ v ran. ok.only_ready v (λ e. ran (same v ran ∙ e));
        below_time = λ v e. ok.below_time v (sym (same v (λ i. goes_on_not_idle (sym e ∙ i))) ∙ e);
        branch_there = λ v b e. ok.branch_there v b (sym (same v (λ i. ends_not_idle b (sym e ∙ i))) ∙ e);
        else_zero = λ v b e. ok.else_zero v b (sym (same v (λ i. ends_not_idle b (sym e ∙ i))) ∙ e);
      }
    where
      same : (v : ℕ) → g v ≢ idle → g v ≡ f v
      same v ran = go (part v)
        where
          go : (g v ≡ idle) ⊎ (g v ≡ f v) → g v ≡ f v
          go (inl i) = absurd (ran i)
          go (inr e) = e

  -- a tick is allowed where each of its turns alone is
  pub allowed_by_turns : (ts : List (Turn Outcome)) → AllByRecursion (λ t. Allowed ns arcs job (outcome_in (t ∷ []))) ts → Allowed ns arcs job (outcome_in ts)
  allowed_by_turns ts all =
      record {
        only_ready = λ v ran.
            let x = alone v ran in
            x.1.only_ready v (λ e. ran (sym x.2 ∙ e));
        below_time = λ v e.
            let x = alone v (λ i. goes_on_not_idle (sym e ∙ i)) in
            x.1.below_time v (x.2 ∙ e);
        branch_there = λ v b e.
            let x = alone v (λ i. ends_not_idle b (sym e ∙ i)) in
            x.1.branch_there v b (x.2 ∙ e);
        else_zero = λ v b e.
            let x = alone v (λ i. ends_not_idle b (sym e ∙ i)) in
            x.1.else_zero v b (x.2 ∙ e);
      }
    where
      alone : (v : ℕ) → outcome_in ts v ≢ idle → (t : Turn Outcome) × Allowed ns arcs job (outcome_in (t ∷ [])) × (outcome_in (t ∷ []) v ≡ outcome_in ts v)
      alone v ran = turn_of_outcome (λ t. Allowed ns arcs job (outcome_in (t ∷ []))) ts all v ran

module _ (ns : List Node) (arcs : List Arc) (j : JobState) where
  -- the turns of a tick that is allowed are turns that the job may have
  pub may_have_turns : (ts : List (Turn Outcome)) → ((v : ℕ) → turns_of v ts ≤ 1) → AllByRecursion (λ t. t.outcome ≢ idle) ts
      → Allowed ns arcs j.states (outcome_in ts) → AllByRecursion (MayHave (graph_jobs ns arcs) j) ts
  may_have_turns ts once ran ok = each ts ran (outcome_of_turn ts once)
    where
      part : (t : Turn Outcome) → outcome_in ts t.node ≡ t.outcome → (v : ℕ) (b : Bool) → eqb v t.node ≡ b
          → (cond b t.outcome idle ≡ idle) ⊎ (cond b t.outcome idle ≡ outcome_in ts v)
      part t e v true same = inr (sym e ∙ ap (outcome_in ts) (sym (eqb-true v t.node same)))
      part t e v false same = inl refl

      each : (us : List (Turn Outcome)) → AllByRecursion (λ t. t.outcome ≢ idle) us → AllByRecursion (λ t. outcome_in ts t.node ≡ t.outcome) us
          → AllByRecursion (MayHave (graph_jobs ns arcs) j) us
      each [] ran same = tt
      each (t ∷ us) ran same = (
        (
          ok.only_ready t.node (λ i. ran.0 (sym same.0 ∙ i)),
          (ran.0, allowed_fewer ns arcs j.states (outcome_in ts) (outcome_in (t ∷ [])) ok (λ v. part t same.0 v (eqb v t.node) refl)),
        ),
        each us ran.1 same.1,
      )
