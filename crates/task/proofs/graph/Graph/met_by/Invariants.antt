use Rattle.sets.specs.Sets.{Marks}
use Rattle.sets.proofs.Marked.{SomeBelow}
use Rattle.task.proofs.Kinded.{EndsAt}
use Rattle.task.proofs.graph.Graph.met_by.Given as goal

abbrev pub invariant-loop-arc : goal.invariant-loop-arc
invariant-loop-arc l = Marks (SomeBelow (EndsAt l.self.nodes.now l.self.arcs.now l.kind l.end) l.arc-index) l.met
