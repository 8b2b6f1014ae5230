-- What a lawful task gives the measures.
use Rattle.table.specs.declared.records.Table.{Table}
use Rattle.task.specs.Graph.{Ranged}
use Rattle.task.specs.Held.{nodes_of, arcs_of, LawfulTask}
use Rattle.task.proofs.Answering.{ranged}
use Rattle.workload.specs.Nested.{Nested}
use Rattle.workload.proofs.Nesting.{tasks_nest_lem}

pub task_ranged : (table : Table) → LawfulTask table → Ranged (nodes_of table) (arcs_of table)
task_ranged table l = ranged table.timing (nodes_of table) (arcs_of table) l.in_range

pub task_nested : (table : Table) → LawfulTask table → Nested (nodes_of table)
task_nested table l = tasks_nest_lem (nodes_of table) (arcs_of table) (task_ranged table l) l.shaped
