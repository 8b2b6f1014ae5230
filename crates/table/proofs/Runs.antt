-- What a run holds: its task, its nodes and its arcs.
use Rattle.std.proofs.Common.{List, [], ◌∷◌, ◌++◌}
use Rattle.table.specs.declared.records.Timing.{Timing}
use Rattle.table.specs.declared.records.Node.{Node}
use Rattle.table.specs.declared.records.Arc.{Arc}
use Rattle.table.specs.declared.records.Table.{Table}
use Rattle.table.specs.Format.{Record, task, node, arc}
use Rattle.table.specs.Run.{Run, begin, ◌then◌}
use Rattle.table.specs.Whole.{no_timing, held}

abbrev pub timing_after : Timing → Record → Timing
timing_after before (task t) = t
timing_after before (node n) = before
timing_after before (arc a) = before

abbrev pub nodes_of : Record → List Node
nodes_of (task t) = []
nodes_of (node n) = n ∷ []
nodes_of (arc a) = []

abbrev pub arcs_of : Record → List Arc
arcs_of (task t) = []
arcs_of (node n) = []
arcs_of (arc a) = a ∷ []

abbrev pub timing : Run → Timing
timing begin = no_timing
timing (run then r) = timing_after (timing run) r

abbrev pub nodes : Run → List Node
nodes begin = []
nodes (run then r) = nodes run ++ nodes_of r

abbrev pub arcs : Run → List Arc
arcs begin = []
arcs (run then r) = arcs run ++ arcs_of r

abbrev pub records : Run → Table
records run = held (timing run) (nodes run) (arcs run)
