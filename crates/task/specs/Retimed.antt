-- A task with the time of one node set anew. Assumes nothing.
use Rattle.std.specs.Prelude.{◌≡◌, ℕ, ◌≤◌, Some, None, Option, slice_index_or, slice_set}
use Rattle.table.specs.declared.records.Node.{Node}
use Rattle.table.specs.declared.records.Table.{Table}
use Rattle.table.specs.Whole.{no_node}
use Rattle.task.specs.declared.held.Task.{Task}
use Rattle.task.specs.Graph.{IsNode}
use Rattle.task.specs.Held.{nodes_of}

abbrev pub with_time : ℕ → Node → Node
with_time t n = record { role = n.role; region = n.region; time = t }

-- the table in which the node v has the time t, and all else is as it was
abbrev pub retimed : Table → ℕ → ℕ → Table
retimed table v t = record {
  timing = table.timing;
  nodes = record { items = slice_set table.nodes.items v (with_time t (slice_index_or table.nodes.items v no_node)); len = table.nodes.len };
  arcs = table.arcs;
}

-- there is such a node, and the time is in range
pub record CanRetime (table : Table) (v t : ℕ) : Type 0 where
  pub is_node : IsNode (nodes_of table) v
  pub some_time : 1 ≤ t
  pub short_time : t ≤ 65535

-- the retimed task where it can be retimed, and nothing where it cannot
abbrev pub Retimes : Table → ℕ → ℕ → Option Task → Type 0
Retimes table v t (Some task) = CanRetime table v t × (task.table ≡ retimed table v t)
Retimes table v t None = CanRetime table v t → ⊥
