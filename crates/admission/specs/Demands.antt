-- What a task asks of a plan. Assumes nothing.
use Rattle.std.specs.Prelude.{◌≡◌}
use Rattle.bounds.specs.declared.plan.Demand.{Demand}
use Rattle.table.specs.declared.records.Table.{Table}
use Rattle.task.specs.Held.{nodes_of, arcs_of}
use Rattle.workload.specs.Measures.{IsGreatestLength, IsGreatestTotal}

-- the demand has the task's times, and the greatest length and the greatest total over all settlings
pub record Demands (table : Table) (d : Demand) : Type 0 where
  pub period : d.period ≡ table.timing.period
  pub deadline : d.deadline ≡ table.timing.deadline
  pub longest : IsGreatestLength (nodes_of table) (arcs_of table) d.longest
  pub total : IsGreatestTotal (nodes_of table) d.total
