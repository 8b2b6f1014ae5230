-- Three flashes on two cores meet what the theorem assumes, and run.
use Rattle.std.proofs.Common.{◌≡◌, ℕ, zero, suc, ◌+◌, ◌<◌, ◌≤◌, true, false, ◌&&◌, eqb, ◌⊎◌, List, [], ◌∷◌, length, Some, None, Option, refl, ap, subst, inr, arith, lit<, lit≤}
use lib.ListN.{get_or-replicate}
use Rattle.std.proofs.lemmas.Bool.Decides.{nat_tests}
use Rattle.std.specs.List.{AllByRecursion}
use Rattle.order.specs.Orders.{smaller_slot, slot_cap}
use Rattle.bounds.specs.declared.plan.Demand.{Demand}
use Rattle.bounds.specs.Equation.{sum_to, held, Solves}
use Rattle.bounds.proofs.Cases.{fixed}
use Rattle.bounds.proofs.Climb.{by_climb}
use Rattle.jobs.specs.Job.{Outcome}
use Rattle.timing.specs.Counts.{bit}
use Rattle.timing.specs.Run.{State, start, release, Place, places_of, ReadyAt, GoesAhead, MayTick, tick, begun, released, ticked}
use Rattle.response.specs.System.{there}
use Rattle.admission.specs.Demands.{Demands}
use Rattle.response.specs.Example.{flash, flash_demand, flashes, flash_bounds, flash_system, FlashesPlanned, FlashesRun}
use Rattle.response.proofs.Flash.{flash_lawful, flash_length, flash_total, lit, may_flash}

flashes_solved : Solves slot_cap flashes flash_bounds
unfolding sum_to
flashes_solved = (by_climb smaller_slot slot_cap fixed flashes (0 ∷ 1 ∷ 2 ∷ []) flash_bounds refl refl).solves

-- the first three slots hold a task
held_cases : (P : ℕ → Type 0) → P 0 → P 1 → P 2 → (k : ℕ) → k < 16 → there (held flashes k) ≡ true → P k
held_cases P a b c zero l h = a
held_cases P a b c (suc zero) l h = b
held_cases P a b c (suc (suc zero)) l h = c
held_cases P a b c (suc (suc (suc k))) l h =
    let vacant : held flashes (suc (suc (suc k))) ≡ None = get_or-replicate 13 k None None (omega arith) in
    let z : false ≡ true = subst (λ (o : Option Demand). there o ≡ true) vacant h in
    absurd (grind arith)

same_demand : (d e : Demand) → Some d ≡ Some e → d ≡ e
same_demand d e h = cc

flash_demands : (d : Demand) → flash_demand ≡ Some d → Demands flash d
flash_demands d e =
    subst (Demands flash) (same_demand _ d e) (record { period = refl; deadline = refl; longest = flash_length; total = flash_total })

pub flashes_planned : FlashesPlanned
flashes_planned =
    record {
      orderly = fixed;
      solves = flashes_solved;
      lawful = λ k d l e. flash_lawful;
      demands = λ k d l e.
          held_cases (λ i. held flashes i ≡ Some d → Demands flash d) (flash_demands d) (flash_demands d) (flash_demands d) k l (ap there e) e;
    }

-- ---- the run

-- the node of slot k has a core, and ends
abbrev place : ℕ → Place Outcome
place k = record { slot = k; turn = lit }

abbrev both : List (Place Outcome)
both = place 0 ∷ place 1 ∷ []

abbrev third : List (Place Outcome)
third = place 2 ∷ []

abbrev all_open : State flash_system
all_open = release flash_system 2 (release flash_system 1 (release flash_system 0 (start flash_system)))

abbrev one_left : State flash_system
one_left = tick flash_system both all_open

both_once : (k v : ℕ) → bit (eqb k 0 && eqb v 0) + (bit (eqb k 1 && eqb v 0) + 0) ≤ 1
both_once k v = grind (arith, nat_tests)

third_once : (k v : ℕ) → bit (eqb k 2 && eqb v 0) + 0 ≤ 1
third_once k v = grind (arith, nat_tests)

-- the only node of a slot that has a place does not wait
not_waiting : (k w : ℕ) (cs : List (Place Outcome)) → 1 ≤ places_of k 0 cs → w < 1 → places_of k w cs ≡ 0 → ⊥
not_waiting k zero cs placed l none = omega arith
not_waiting k (suc w) cs placed l none = omega arith

first_tick : MayTick flash_system all_open both
first_tick =
    record {
      allowed = ((lit< tt, may_flash), ((lit< tt, may_flash), tt));
      once = both_once;
      few = lit≤ tt;
      work_conserving = λ k w h ready waits.
          held_cases
          (λ i. ReadyAt (flash_system.jobs i) w (all_open.slot i) → places_of i w both ≡ 0
          → (length both ≡ flashes.cores) × AllByRecursion (λ c. (c.slot ≡ i) ⊎ GoesAhead flash_system all_open c.slot i) both)
          (λ r none. absurd (not_waiting 0 w both (lit≤ tt) r.is_node none))
          (λ r none. absurd (not_waiting 1 w both (lit≤ tt) r.is_node none))
          (λ r none. (refl, (inr refl, (inr refl, tt)))) k h.0 h.1 ready waits;
    }

second_tick : MayTick flash_system one_left third
second_tick =
    record {
      allowed = ((lit< tt, may_flash), tt);
      once = third_once;
      few = lit≤ tt;
      work_conserving = λ k w h ready waits.
          absurd (held_cases (λ i. ReadyAt (flash_system.jobs i) w (one_left.slot i) → places_of i w third ≡ 0 → ⊥) (λ r none. r) (λ r none. r)
          (λ r none. not_waiting 2 w third (lit≤ tt) r.is_node none) k h.0 h.1 ready waits);
    }

pub flashes_run : FlashesRun
flashes_run = (
  tick flash_system third one_left,
  ticked third
      (ticked both
      (released 2 (released 1 (released 0 begun ((lit< tt, refl), tt)) ((lit< tt, refl), tt)) ((lit< tt, refl), tt))
      first_tick)
      second_tick,
  refl,
)
