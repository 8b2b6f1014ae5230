-- A whole table: one task, then 1 to 64 nodes, then at most 256 arcs, each in range; and the arrays that hold them. Assumes nothing.
use Rattle.std.specs.Prelude.{◌≡◌, ℕ, ◌-◌, ◌<◌, ◌≤◌, List, ◌++◌, length, replicate, slice_index_or}
use Rattle.std.specs.List.{flat_map}
use Rattle.table.specs.declared.records.Timing.{Timing}
use Rattle.table.specs.declared.records.Node.{Node}
use Rattle.table.specs.declared.records.Arc.{Arc}
use Rattle.table.specs.declared.records.FixedList.{FixedList}
use Rattle.table.specs.declared.records.Role.TheVariants.{Plain}
use Rattle.table.specs.declared.records.Region.TheVariants.{Top}
use Rattle.table.specs.declared.records.Table.{Table}
use Rattle.table.specs.Format.{task, node, arc, encode}
use Rattle.table.specs.Range.{TaskInRange, NodeInRange, ArcInRange}

-- what the unused places of the arrays hold
abbrev pub no_timing : Timing
no_timing = record { period = 0; deadline = 0 }

abbrev pub no_node : Node
no_node = record { role = Plain; region = Top; time = 0 }

abbrev pub no_arc : Arc
no_arc = record { from = 0; to = 0 }

-- few enough, and in range; a node's number is its place
pub record Lawful (t : Timing) (ns : List Node) (arcs : List Arc) : Type 0 where
  pub some_node : 1 ≤ length ns
  pub few_nodes : length ns ≤ 64
  pub few_arcs : length arcs ≤ 256
  pub task_in_range : TaskInRange t
  pub nodes_in_range : (v : ℕ) → v < length ns → NodeInRange v (slice_index_or ns v no_node)
  pub arcs_in_range : (k : ℕ) → k < length arcs → ArcInRange (length ns) (slice_index_or arcs k no_arc)

-- the records one after another
abbrev pub table_bytes : Timing → List Node → List Arc → List ℕ
table_bytes t ns arcs = encode (task t) ++ (flat_map (λ (n : Node). encode (node n)) ns ++ flat_map (λ (a : Arc). encode (arc a)) arcs)

-- an array's places behind those in use hold nothing
abbrev pub padded : {A : Type 0} → ℕ → A → List A → List A
padded places nothing xs = xs ++ replicate (places - length xs) nothing

abbrev pub node_list : List Node → FixedList Node 64
node_list ns = record { items = padded 64 no_node ns; len = length ns }

abbrev pub arc_list : List Arc → FixedList Arc 256
arc_list arcs = record { items = padded 256 no_arc arcs; len = length arcs }

abbrev pub held : Timing → List Node → List Arc → Table
held t ns arcs = record { timing = t; nodes = node_list ns; arcs = arc_list arcs }

-- the bytes are those of a lawful table, and this is what it holds
pub record Encodes (bytes : List ℕ) (table : Table) : Type 0 where
  pub timing : Timing
  pub nodes : List Node
  pub arcs : List Arc
  pub lawful : Lawful timing nodes arcs
  pub bytes_are : bytes ≡ table_bytes timing nodes arcs
  pub holds : table ≡ held timing nodes arcs
