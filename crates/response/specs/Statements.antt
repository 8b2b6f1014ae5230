-- The response-time theorem at the tasks of a plan. Assumes nothing.
use Rattle.std.specs.Prelude.{◌≡◌, ℕ, ◌+◌, ◌-◌, ◌*◌, ◌<◌, List, Some, Decides}
use Rattle.table.specs.declared.records.Arc.{Arc}
use Rattle.table.specs.declared.records.Node.{Node}
use Rattle.table.specs.declared.records.Table.{Table}
use Rattle.task.specs.Graph.{Ranged}
use Rattle.task.specs.Held.{LawfulTask}
use Rattle.task.specs.Shape.{Shaped}
use Rattle.workload.specs.Measures.{IsGreatestLength, IsGreatestTotal}
use Rattle.order.specs.Laws.{Orderly}
use Rattle.admission.specs.Demands.{Demands}
use Rattle.bounds.specs.declared.plan.Demand.{Demand}
use Rattle.bounds.specs.declared.plan.Plan.{Plan}
use Rattle.bounds.specs.Equation.{Caps, held, Solves}
use Rattle.jobs.specs.Job.{JobEnded}
use Rattle.timing.specs.Jobs.{JobLaws}
use Rattle.timing.specs.Run.{State, start, Run}
use Rattle.timing.specs.Statements.{Timely, NoOverlap, Ends}
use Rattle.response.specs.Jobs.{JobState, graph_jobs}
use Rattle.response.specs.System.{Goes, system_of}

-- the system's test of a job's end tells just when the job has ended
abbrev pub EndsDecided : Type 0
EndsDecided = (ns : List Node) (arcs : List Arc) (j : JobState) → Decides ((graph_jobs ns arcs).ended j) (JobEnded ns arcs j.states)

-- the jobs of every graph in range and of lawful shape keep the laws of the timing argument, with its greatest length L and total W
abbrev pub GraphsKeepLaws : Type 0
GraphsKeepLaws =
    (ns : List Node) (arcs : List Arc) (m L W : ℕ) → Ranged ns arcs → Shaped ns arcs → IsGreatestLength ns arcs L → IsGreatestTotal ns W
    → JobLaws (graph_jobs ns arcs) m W ((m - 1) * L + W)

-- an order with its laws, bounds that meet the plan's equation and deadlines, and in each slot in use a lawful task with the plan's demand
pub record Planned (goes : Goes) (most : Caps) (p : Plan) (R : List ℕ) (tasks : ℕ → Table) : Type 0 where
  pub orderly : Orderly goes most
  pub solves : Solves most p R
  pub lawful : (k : ℕ) (d : Demand) → k < 16 → held p k ≡ Some d → LawfulTask (tasks k)
  pub demands : (k : ℕ) (d : Demand) → k < 16 → held p k ≡ Some d → Demands (tasks k) d

-- In every run of such a system every job ends within its bound, an open job is younger than its bound, and when a job may be released
-- the one before it has ended.
abbrev pub PlansRespond : Type 0
PlansRespond =
    (goes : Goes) (most : Caps) (p : Plan) (R : List ℕ) (tasks : ℕ → Table) → Planned goes most p R tasks
    → (s : State (system_of goes most p R tasks)) → Run (system_of goes most p R tasks) (start (system_of goes most p R tasks)) s
    → Ends (system_of goes most p R tasks) s × Timely (system_of goes most p R tasks) s × NoOverlap (system_of goes most p R tasks) s
