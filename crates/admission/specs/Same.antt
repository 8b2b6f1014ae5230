-- When two tasks are the same, and what they then share. Assumes nothing.
use Rattle.std.specs.Prelude.{◌≡◌, ℕ, ◌<◌, List, Some, None, Option}
use Rattle.order.specs.declared.Party.{Party}
use Rattle.bounds.specs.declared.plan.Demand.{Demand}
use Rattle.bounds.specs.declared.plan.Plan.{Plan}
use Rattle.bounds.specs.Equation.{Caps, held, Answers, SameDemand}
use Rattle.table.specs.declared.records.Arc.{Arc}
use Rattle.table.specs.declared.records.Table.{Table}
use Rattle.task.specs.Graph.{Joined}
use Rattle.task.specs.Held.{nodes_of, arcs_of}
use Rattle.admission.specs.Demands.{Demands}

-- the same set of arcs, in whatever sequence
pub record SameArcs (a b : List Arc) : Type 0 where
  pub forth : (u v : ℕ) → Joined a u v → Joined b u v
  pub back : (u v : ℕ) → Joined b u v → Joined a u v

pub record SameTask (a b : Table) : Type 0 where
  pub period : a.timing.period ≡ b.timing.period
  pub deadline : a.timing.deadline ≡ b.timing.deadline
  pub nodes : nodes_of a ≡ nodes_of b
  pub arcs : SameArcs (arcs_of a) (arcs_of b)

-- tasks that are the same have the same demand; so a task has one at most
pub record SameTasksAskTheSame : Type 0 where
  pub same : (a b : Table) (d e : Demand) → SameTask a b → Demands a d → Demands b e → SameDemand (Some d) (Some e)
  pub only : (table : Table) (d e : Demand) → Demands table d → Demands table e → SameDemand (Some d) (Some e)

-- the slot has the demand of its task, or neither is there
abbrev pub SlotDemands : Option Table → Option Demand → Type 0
SlotDemands None None = Unit {0}
SlotDemands None (Some d) = ⊥
SlotDemands (Some table) None = ⊥
SlotDemands (Some table) (Some d) = Demands table d

abbrev pub SameSlot : Option Table → Option Table → Type 0
SameSlot None None = Unit {0}
SameSlot None (Some b) = ⊥
SameSlot (Some a) None = ⊥
SameSlot (Some a) (Some b) = SameTask a b

-- the plan is that of the tasks in the slots
abbrev pub PlanOf : (ℕ → Option Table) → Plan → Type 0
PlanOf tasks p = (k : ℕ) → k < 16 → SlotDemands (tasks k) (held p k)

-- on as many cores, tasks that are the same slot by slot have the same bounds, or none, where the caps are equal
abbrev pub SameTasksSameBounds : Type 0
SameTasksSameBounds = (most also : Caps) (first second : ℕ → Option Table) (p q : Plan) (a b : Option (List ℕ))
    → ((i k : Party) (R : ℕ) → most i k R ≡ also i k R) → p.cores ≡ q.cores → ((k : ℕ) → k < 16 → SameSlot (first k) (second k))
    → PlanOf first p → PlanOf second q → Answers most p a → Answers also q b → a ≡ b
