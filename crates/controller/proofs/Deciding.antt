-- What the checks look up.
use Rattle.std.proofs.Common.{◌≡◌, ℕ, ◌+◌, ◌<◌, ◌≤◌, Bool, true, false, cond, List, [], ◌∷◌, length, is_some, Some, None, Option, Result, sym, refl, ◌∙◌, arith}
use Rattle.std.specs.Bool.{MatchBool}
use Rattle.std.specs.List.{HoldsAt, AllWithin, fold, count_by}
use Rattle.std.specs.Option.{ok_or, option_copied}
use denote.Ref.{Bor}
use Rattle.task.specs.declared.held.Task.{Task}
use Rattle.dispatch.specs.declared.job.Job.{Job}
use Rattle.dispatch.specs.declared.spot.Spot.{Spot}
use Rattle.controller.specs.declared.refusal.Refusal.{Refusal}
use Rattle.controller.specs.declared.refusal.Refusal.TheVariants.{Empty, NotAdmitted, NoTick}
use Rattle.controller.specs.declared.tables.Tables.{Tables}
use Rattle.controller.specs.Checks.{Checked, slot_held, admitted, tick_open}
use Rattle.order.specs.Laws.{Meaning}
use Rattle.controller.specs.State.{task_in, SomeOpen, held_in}

-- some order: most checks pass or fail whatever the order
pub no_order : Meaning
no_order = record { goes = λ _ _ _. true; most = λ _ _ _. None }

the_job : (x : Option Job) → is_some x ≡ true → (j : Job) × (x ≡ Some j)
the_job (Some j) e = (j, refl)
the_job None e = absurd (let z : ◌≡◌ {A = ℕ} 0 1 = cc in omega arith)

pub open_somewhere : (jobs : List (Option Job)) → length jobs ≡ 16 → (r : Bool) → r ≡ true
    → MatchBool r ((k : ℕ) × (k < length jobs) × HoldsAt (λ x. is_some x ≡ true) jobs k) (AllWithin (λ x. is_some x ≡ false) jobs 0 (length jobs)) → SomeOpen jobs
open_somewhere jobs long true e found =
    let j = the_job _ (found.2 None) in
    record { slot = found.0; within = omega (arith, long, found.1); job = j.0; there = j.1 }
open_somewhere jobs long false e none = absurd (let z : ◌≡◌ {A = ℕ} 0 1 = cc in omega arith)

-- counting from n
counted_from : (ts : List (Option Task)) (n : ℕ) → fold (λ a x. a + cond (is_some x) 1 0) n ts ≡ n + held_in ts
counted_from [] n = omega arith
counted_from (None ∷ ts) n = counted_from ts (n + 0) ∙ omega arith
counted_from (Some τ ∷ ts) n = counted_from ts (n + 1) ∙ omega arith

pub held_counted : (ts : List (Option Task)) → count_by is_some ts ≡ held_in ts
held_counted ts = counted_from ts 0 ∙ omega arith

pub held_few : (ts : List (Option Task)) → held_in ts ≤ length ts
held_few [] = omega arith
held_few (None ∷ ts) = let l = held_few ts in omega arith
held_few (Some τ ∷ ts) = let l = held_few ts in omega arith

-- the task looked up in a slot
pub held_checked : (t : Tables) (s : ℕ) (x : Option (Bor Task)) (r : Result (Bor Task) Refusal) → option_copied x ≡ task_in t s → r ≡ ok_or x Empty
    → Checked t (slot_held s) (λ τ. task_in t s ≡ Some τ.now) r
held_checked t s None r e f = rw f (λ o. (sym e, refl))
held_checked t s (Some τ) r e f = rw f ((λ o. (τ.now, sym e)), sym e)

-- the bounds looked up
pub admitted_checked : (t : Tables) (x : Option (List ℕ)) (r : Result (List ℕ) Refusal) → x ≡ t.bounds → r ≡ ok_or x NotAdmitted
    → Checked t admitted (λ bounds. t.bounds ≡ Some bounds) r
admitted_checked t None r e f = rw f (λ o. (sym e, refl))
admitted_checked t (Some bounds) r e f = rw f ((λ o. (bounds, sym e)), sym e)

-- the open tick looked up
pub ticking_checked : (t : Tables) (x : Option (List (Option Spot))) (r : Result (List (Option Spot)) Refusal) → x ≡ t.tick → r ≡ ok_or x NoTick
    → Checked t tick_open (λ spots. t.tick ≡ Some spots) r
ticking_checked t None r e f = rw f (λ o. (sym e, refl))
ticking_checked t (Some spots) r e f = rw f ((λ o. (spots, sym e)), sym e)
