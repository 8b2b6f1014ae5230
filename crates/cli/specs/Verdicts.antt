-- What a plan of demands is told. Assumes nothing.
use Rattle.std.specs.Prelude.{◌≡◌, ℕ, ◌≤◌, List, Ok, Err, Option, Result}
use Rattle.order.specs.Orders.{slot_cap, no_cap}
use Rattle.bounds.specs.declared.plan.Demand.{Demand}
use Rattle.bounds.specs.declared.plan.Plan.{Plan}
use Rattle.bounds.specs.declared.rise.Passed.{Passed}
use Rattle.bounds.specs.Equation.{Caps, Told}
use Rattle.plans.specs.declared.plan.Precedence.{Precedence}
use Rattle.plans.specs.declared.plan.Precedence.TheVariants.{Fixed, Open}
use Rattle.cli.specs.declared.planning.NotAdmitted.{NotAdmitted}
use Rattle.cli.specs.declared.planning.NotAdmitted.TheVariants.{NoBounds, NoSuchCores}

abbrev pub caps_under : Precedence → Caps
caps_under Fixed = slot_cap
caps_under Open = no_cap

-- the answer for the plan of these cores and slots
pub record Answered (cores : ℕ) (slots : List (Option Demand)) (most : Caps) (answer : Result (List ℕ) Passed) : Type 0 where
  pub plan : Plan
  pub cores_are : plan.cores ≡ cores
  pub slots_are : plan.slots ≡ slots
  pub told : Told most plan answer

-- r is the least bounds under the order, or the slot that has none, where the cores are 1 to 16
abbrev pub Judged : ℕ → Precedence → List (Option Demand) → Result (List ℕ) NotAdmitted → Type 0
Judged cores order slots (Ok bounds) = Answered cores slots (caps_under order) (Ok bounds)
Judged cores order slots (Err (NoBounds passed)) = Answered cores slots (caps_under order) (Err passed)
Judged cores order slots (Err (NoSuchCores told)) = (told ≡ cores) × (1 ≤ cores → cores ≤ 16 → ⊥)
