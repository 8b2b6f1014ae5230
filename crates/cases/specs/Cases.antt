-- The worked cases as a list of data, and what each says of the definitions. Assumes nothing.
use Rattle.std.specs.Prelude.{◌≡◌, ℕ, ◌≤◌, List, [], ◌∷◌, ◌++◌, Some, None, Ok, Err, Option, Result}
use Rattle.std.proofs.Common.{lit≤}
use Rattle.std.specs.List.{AllByRecursion}
use Rattle.table.specs.declared.fault.Fault.{Fault}
use Rattle.table.specs.declared.fault.Fault.TheVariants.{Range}
use Rattle.table.specs.declared.fault.Field.TheVariants.{Time}
use Rattle.table.specs.declared.records.Arc.{Arc}
use Rattle.table.specs.declared.records.Node.{Node}
use Rattle.table.specs.declared.records.Table.{Table}
use Rattle.table.specs.Cases.{lamp_timing, lamp_nodes, lamp as lamp_table}
use Rattle.table.specs.Numbers.{fault_number, fault_added}
use Rattle.table.specs.Reading.{Reads}
use Rattle.table.specs.Whole.{held}
use Rattle.workload.specs.Example.{example, example_arcs}
use Rattle.workload.specs.Measures.{IsGreatestLength, IsGreatestTotal}
use Rattle.order.specs.Orders.{slot_cap, no_cap}
use Rattle.bounds.specs.declared.plan.Demand.{Demand}
use Rattle.bounds.specs.declared.plan.Plan.{Plan}
use Rattle.bounds.specs.declared.rise.Passed.{Passed}
use Rattle.bounds.specs.Cases.{Case as PlanCase, case, on_two, bounds, passed, lamp_10, lamp_16, lamp_17, splice_22, splice_23, splice_40}
use Rattle.bounds.specs.Equation.{Caps, Told, work_ahead_of}

pub data Case : Type 0 where
  -- a task's greatest length and greatest total
  measured : List Node → List Arc → (L W : ℕ) → Case
  -- a plan's demand carries the task's greatest length and greatest total
  demanded : List Node → List Arc → Option Demand → Case
  -- the bounds told of a plan, or the refusal
  planned : Caps → Plan → Result (List ℕ) Passed → Case
  -- what reading the lamp's table with this time answers
  timed : (time : ℕ) → Result Table Fault → Case
  -- the number under which a table is refused, and what it adds
  numbered : Fault → (number added : ℕ) → Case
  -- what a task of total W and period T uses ahead of one job on m cores, without a cap
  shared : (m window W T X : ℕ) → Case

-- these are the task's greatest length and greatest total
abbrev pub Measures : List Node → List Arc → ℕ → ℕ → Type 0
Measures ns arcs L W = IsGreatestLength ns arcs L × IsGreatestTotal ns W

abbrev pub Demands : List Node → List Arc → Option Demand → Type 0
Demands ns arcs None = ⊥
Demands ns arcs (Some d) = Measures ns arcs d.longest d.total

abbrev pub Holds : Case → Type 0
Holds (measured ns arcs L W) = Measures ns arcs L W
Holds (demanded ns arcs d) = Demands ns arcs d
Holds (planned most plan answer) = Told most plan answer
Holds (timed time answer) = Reads (lamp_table time) answer
Holds (numbered fault number added) = (fault_number fault ≡ number) × (fault_added fault ≡ added)
Holds (shared m window W T X) = work_ahead_of m W T None window ≡ X

-- the splice is the conditional example; the lamp is one plain node of time 6
abbrev pub lamp_task : List Node
lamp_task = lamp_nodes 6

abbrev pub of_plan : PlanCase → Case
of_plan c = planned c.most c.plan c.answer

-- one task alone, in the fixed order
abbrev pub alone : (cores : ℕ) → 1 ≤ cores → cores ≤ 16 → Option Demand → ℕ → Case
alone cores lo hi task bound = of_plan (case slot_cap cores lo hi task None (bounds bound 0))

-- tasks in the first two slots on two cores, in the fixed order and in the open one
abbrev pub fixed : Option Demand → Option Demand → Result (List ℕ) Passed → Case
fixed first second answer = of_plan (on_two slot_cap first second answer)

abbrev pub free : Option Demand → Option Demand → Result (List ℕ) Passed → Case
free first second answer = of_plan (on_two no_cap first second answer)

-- the lamp's time out of range; its record stands at offset 12
abbrev pub time_fault : ℕ → Fault
time_fault time = Range 12 (record { field = Time; value = time })

-- the two tasks, and that the plans below are plans of them
abbrev pub task_cases : List Case
task_cases =
    measured example example_arcs 12 22
    ∷ measured lamp_task [] 6 6
    ∷ demanded example example_arcs splice_22
    ∷ demanded example example_arcs splice_23
    ∷ demanded example example_arcs splice_40
    ∷ demanded lamp_task [] lamp_10
    ∷ demanded lamp_task [] lamp_16
    ∷ demanded lamp_task [] lamp_17
    ∷ []

-- the splice alone; the lamp before the splice, in the fixed order and in the open one; the splice before the lamp
abbrev pub plan_cases : List Case
plan_cases =
    alone 1 (lit≤ tt) (lit≤ tt) splice_40 22
    ∷ alone 2 (lit≤ tt) (lit≤ tt) splice_40 17
    ∷ alone 3 (lit≤ tt) (lit≤ tt) splice_40 16
    ∷ alone 16 (lit≤ tt) (lit≤ tt) splice_40 13
    ∷ fixed lamp_10 splice_40 (bounds 6 23)
    ∷ fixed lamp_10 splice_23 (bounds 6 23)
    ∷ fixed lamp_10 splice_22 (passed 1)
    ∷ free lamp_10 splice_40 (passed 0)
    ∷ free lamp_17 splice_40 (bounds 17 23)
    ∷ free lamp_16 splice_40 (passed 0)
    ∷ fixed splice_40 lamp_17 (bounds 17 17)
    ∷ fixed splice_40 lamp_16 (passed 1)
    ∷ []

-- the lamp's table with the longest time, and with times next to the range; a share on two cores
abbrev pub other_cases : List Case
other_cases =
    timed 65535 (Ok (held lamp_timing (lamp_nodes 65535) []))
    ∷ timed 0 (Err (time_fault 0))
    ∷ timed 65536 (Err (time_fault 65536))
    ∷ numbered (time_fault 0) 6 12
    ∷ numbered (time_fault 65536) 6 12
    ∷ shared 2 14 7 10 14
    ∷ []

abbrev pub cases : List Case
cases = task_cases ++ (plan_cases ++ other_cases)

abbrev pub CasesHold : Type 0
CasesHold = AllByRecursion Holds cases
