-- In every run of a plan's system each job ends within its bound.
use Rattle.workload.proofs.Tasks.{task_ranged}
use Rattle.std.proofs.Common.{ℕ, ◌+◌, ◌-◌, ◌*◌, List}
use Rattle.table.specs.declared.records.Table.{Table}
use Rattle.task.specs.Held.{nodes_of, arcs_of}
use Rattle.bounds.specs.declared.plan.Plan.{Plan}
use Rattle.bounds.specs.Equation.{Caps}
use Rattle.timing.specs.Jobs.{JobLaws}
use Rattle.timing.specs.System.{Bounded, SoundJobs}
use Rattle.timing.proofs.Invariant.{responds}
use Rattle.response.specs.Jobs.{graph_jobs}
use Rattle.response.specs.System.{Goes, number, numbers_of, system_of}
use Rattle.response.specs.Statements.{Planned, PlansRespond}
use Rattle.response.proofs.Laws.{graphs_keep_laws_lem}
use Rattle.response.proofs.Plans.{of_demand, bounded}

module _ (goes : Goes) (most : Caps) (p : Plan) (R : List ℕ) (tasks : ℕ → Table) (planned : Planned goes most p R tasks) where
  pub plan_bounded : Bounded (numbers_of goes most p R)
  plan_bounded = bounded goes most p R planned.solves planned.orderly

  pub jobs_sound : SoundJobs (system_of goes most p R tasks)
  jobs_sound k h =
      of_demand goes most p R
      (λ o. JobLaws (graph_jobs (nodes_of (tasks k)) (arcs_of (tasks k))) p.cores (number (λ d. d.total) o) (number (λ d. (p.cores - 1) * d.longest + d.total) o))
      k
      (λ d e.
      let lawful = planned.lawful k d h.0 e in
      let asks = planned.demands k d h.0 e in
      graphs_keep_laws_lem (nodes_of (tasks k)) (arcs_of (tasks k)) p.cores d.longest d.total (task_ranged (tasks k) lawful) lawful.shaped asks.longest asks.total)
      h

pub plans_respond_lem : PlansRespond
plans_respond_lem goes most p R tasks planned s run =
    responds (system_of goes most p R tasks) (plan_bounded goes most p R tasks planned) (jobs_sound goes most p R tasks planned) s run
