use Rattle.std.proofs.Common.{ℕ, ◌<◌}
use Rattle.task.specs.Shape.{LawfulArc}
use Rattle.task.proofs.Lawful.{Sees}
use Rattle.task.proofs.graph.Graph.arcs_are_lawful.Given as goal

abbrev pub invariant-loop-k : goal.invariant-loop-k
invariant-loop-k l = Sees l.self.arcs.now l.k l.seen × ((j : ℕ) → j < l.k → LawfulArc l.self.nodes.now l.self.arcs.now j)
