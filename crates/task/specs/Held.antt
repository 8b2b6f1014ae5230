-- A lawful task: its records are in range and have the lawful shape. Assumes nothing.
use Rattle.std.specs.Prelude.{List, take}
use Rattle.table.specs.declared.records.Arc.{Arc}
use Rattle.table.specs.declared.records.Node.{Node}
use Rattle.table.specs.declared.records.Table.{Table}
use Rattle.table.specs.Whole.{Lawful}
use Rattle.task.specs.Shape.{Shaped}

-- the nodes and arcs in use
abbrev pub nodes_of : Table → List Node
nodes_of table = take table.nodes.len table.nodes.items

abbrev pub arcs_of : Table → List Arc
arcs_of table = take table.arcs.len table.arcs.items

pub record LawfulTask (table : Table) : Type 0 where
  pub in_range : Lawful table.timing (nodes_of table) (arcs_of table)
  pub shaped : Shaped (nodes_of table) (arcs_of table)
