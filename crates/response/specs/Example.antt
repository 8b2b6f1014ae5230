-- Three tasks of one node of one tick on two cores, in the fixed order: the first two run at once and the third waits, so that its job ends
-- exactly at its bound. Assumes nothing.
use Rattle.std.specs.Prelude.{◌≡◌, ℕ, List, [], ◌∷◌, replicate, Some, None, Option, refl}
use Rattle.std.proofs.Common.{lit≤}
use Rattle.table.specs.declared.records.Table.{Table}
use Rattle.table.specs.Cases.{lamp_timing, lamp_nodes}
use Rattle.table.specs.Whole.{held}
use Rattle.order.specs.Orders.{smaller_slot, slot_cap}
use Rattle.bounds.specs.declared.plan.Demand.{Demand}
use Rattle.bounds.specs.declared.plan.Plan.{Plan}
use Rattle.bounds.specs.Equation.{bound}
use Rattle.timing.specs.System.{System}
use Rattle.timing.specs.Run.{State, start, idle, Run}
use Rattle.response.specs.System.{system_of}
use Rattle.response.specs.Statements.{Planned}

-- a lamp that flashes for one tick: period 20, deadline 10
abbrev pub flash : Table
flash = held lamp_timing (lamp_nodes 1) []

abbrev pub flash_demand : Option Demand
flash_demand =
    Some (record { period = 20; deadline = 10; longest = 1; total = 1; timed = (lit≤ tt, lit≤ tt, lit≤ tt); sized = (lit≤ tt, lit≤ tt, lit≤ tt) })

abbrev pub flashes : Plan
flashes =
    record {
      cores = 2;
      slots = flash_demand ∷ flash_demand ∷ flash_demand ∷ replicate 13 None;
      manned = (lit≤ tt, lit≤ tt);
      slotted = refl;
    }

abbrev pub flash_bounds : List ℕ
flash_bounds = 1 ∷ 2 ∷ 2 ∷ replicate 13 0

abbrev pub flash_system : System
flash_system = system_of smaller_slot slot_cap flashes flash_bounds (λ k. flash)

-- what the theorem assumes
abbrev pub FlashesPlanned : Type 0
FlashesPlanned = Planned smaller_slot slot_cap flashes flash_bounds (λ k. flash)

-- all three jobs are released at 0; that of slot 2 runs in tick 1, and ends at its bound
abbrev pub FlashesRun : Type 0
FlashesRun =
    (s : State flash_system) × Run flash_system (start flash_system) s
    × (s.slot 2 ≡ idle (record { released = 0; spent = 1 ∷ []; ended = bound flash_bounds 2 } ∷ []))
