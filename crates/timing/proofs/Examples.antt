-- The example meets what the theorem assumes, and runs.
use Rattle.std.proofs.Common.{◌≡◌, ℕ, zero, suc, ◌+◌, ◌*◌, ◌<◌, ◌≤◌, Bool, true, ◌&&◌, eqb, ltb, ◌⊎◌, List, [], ◌∷◌, refl, subst, inl, inr, arith, lit<, lit≤}
use Rattle.std.proofs.lemmas.Bool.Decides.{nat_tests}
use Rattle.std.proofs.lemmas.Bool.{and_parts, ltb-true}
use Rattle.std.specs.List.{AllByRecursion}
use Rattle.bounds.specs.Equation.{sum_to, apart_from}
use Rattle.bounds.proofs.Cases.{fixed}
use Rattle.timing.specs.Counts.{bit}
use Rattle.timing.specs.Jobs.{LawsIn}
use Rattle.timing.specs.System.{share}
use Rattle.timing.specs.Run.{State, start, release, Place, places_of, ReadyAt, MayHaveAt, GoesAhead, MayTick, tick, begun, released, ticked}
use Rattle.timing.specs.Example.{two_tasks, example, ExampleBounded, ExampleRuns}
use Rattle.timing.specs.Freely.{ReadyOnce, SoundFreely, ExampleRespondsFreely, ExampleRunsFreely}
use Rattle.timing.proofs.Freely.{laws_allowing, responds_freely, run_freely}
use Rattle.timing.proofs.Invariant.{responds}
use Rattle.timing.proofs.Lanes.{lanes_laws}

-- ---- the bounds and the jobs

below_two : (P : ℕ → Type 0) → P 0 → P 1 → (k : ℕ) → k < 2 → P k
below_two P a b zero l = a
below_two P a b (suc zero) l = b
below_two P a b (suc (suc k)) l = absurd (omega arith)

sound_freely : SoundFreely example
sound_freely k h =
    below_two (λ i. LawsIn (example.jobs i) (λ j ts. (example.jobs i).Sound j × ReadyOnce ((example.jobs i).Ready j) ts) 2 2 (two_tasks.weight i))
    (lanes_laws 2 2 1 (lit≤ tt)) (lanes_laws 2 1 2 (lit≤ tt)) k h.0

pub example_bounded : ExampleBounded
unfolding sum_to
example_bounded = (
  record {
    some_core = lit≤ tt;
    orderly = fixed;
    lawful = λ k h. record { slotted = omega (arith, h.0); some_deadline = lit≤ tt; in_period = lit≤ tt; in_range = lit≤ tt };
    in_slot = λ k h. refl;
    some_bound = λ k h. below_two (λ i. 1 ≤ two_tasks.bound i) (lit≤ tt) (lit≤ tt) k h.0;
    in_deadline = λ k h. below_two (λ i. two_tasks.bound i ≤ 10) (lit≤ tt) (lit≤ tt) k h.0;
    enough = λ k h. below_two (λ i. two_tasks.weight i + sum_to 2 (apart_from i (share two_tasks i)) < 2 * (two_tasks.bound i + 1)) (lit< tt) (lit< tt) k h.0;
  },
  λ k h. laws_allowing (example.jobs k) (example.jobs k).Allows 2 2 (two_tasks.weight k) (sound_freely k h),
  responds example,
)

pub example_responds_freely : ExampleRespondsFreely
example_responds_freely = (sound_freely, responds_freely example)

-- ---- the run

-- the node v of slot k has its nth tick
abbrev place : ℕ → ℕ → ℕ → Place ℕ
place k v n = record { slot = k; turn = record { node = v; outcome = n } }

-- slot 0 has both cores
abbrev both : List (Place ℕ)
both = place 0 0 1 ∷ place 0 1 1 ∷ []

-- slot 1 has one
abbrev alone : ℕ → List (Place ℕ)
alone n = place 1 0 n ∷ []

both_once : (k v : ℕ) → bit (eqb k 0 && eqb v 0) + (bit (eqb k 0 && eqb v 1) + 0) ≤ 1
both_once k v = grind (arith, nat_tests)

alone_once : (k v : ℕ) → bit (eqb k 1 && eqb v 0) + 0 ≤ 1
alone_once k v = grind (arith, nat_tests)

abbrev both_open : State example
both_open = release example 1 (release example 0 (start example))

abbrev after_one : State example
after_one = tick example both both_open

abbrev after_two : State example
after_two = tick example (alone 1) after_one

first_tick : MayTick example both_open both
first_tick =
    record {
      allowed = ((lit< tt, (refl, refl)), ((lit< tt, (refl, refl)), tt));
      once = both_once;
      few = lit≤ tt;
      work_conserving = λ k w h ready missed.
          (refl, below_two (λ i. AllByRecursion (λ c. (c.slot ≡ i) ⊎ GoesAhead example both_open c.slot i) both) (inl refl, (inl refl, tt)) (inr refl, (inr refl, tt)) k h.0);
    }

alone_ticks : (s : State example) (n : ℕ) → MayHaveAt (example.jobs 1) (record { node = 0; outcome = n }) (s.slot 1) → ((w : ℕ) → ReadyAt (example.jobs 0) w (s.slot 0) → ⊥)
    → ((w : ℕ) → ReadyAt (example.jobs 1) w (s.slot 1) → w ≡ 0) → MayTick example s (alone n)
alone_ticks s n allowed idles only =
    record {
      allowed = ((lit< tt, allowed), tt);
      once = alone_once;
      few = lit≤ tt;
      work_conserving = λ k w h at missed.
          absurd (below_two (λ i. ReadyAt (example.jobs i) w (s.slot i) → places_of i w (alone n) ≡ 0 → ⊥) (λ r m. idles w r) (placed w) k h.0 at missed);
    }
  where
    placed : (w : ℕ) → ReadyAt (example.jobs 1) w (s.slot 1) → places_of 1 w (alone n) ≡ 0 → ⊥
    placed w r m =
        let z : places_of 1 0 (alone n) ≡ 0 = subst (λ (u : ℕ). places_of 1 u (alone n) ≡ 0) (only w r) m in
        omega (arith, z)

first_node : (w : ℕ) (b : Bool) → (ltb w 1 && b) ≡ true → w ≡ 0
first_node w b h = omega (arith, ltb-true w 1 (and_parts (ltb w 1) b h).0)

second_tick : MayTick example after_one (alone 1)
second_tick = alone_ticks after_one 1 (refl, refl) (λ w h. h) (λ w h. first_node w _ h)

third_tick : MayTick example after_two (alone 2)
third_tick = alone_ticks after_two 2 (refl, refl) (λ w h. h) (λ w h. first_node w _ h)

pub example_runs_lem : ExampleRuns
example_runs_lem = (
  tick example (alone 2) after_two,
  ticked (alone 2) (ticked (alone 1) (ticked both (released 1 (released 0 begun ((lit< tt, refl), tt)) ((lit< tt, refl), tt)) first_tick) second_tick) third_tick,
  refl,
  refl,
)

pub example_runs_freely : ExampleRunsFreely
example_runs_freely =
    let (s, run, first, second) = example_runs_lem in
    (s, run_freely example (start example) s run, first, second)
