use Rattle.task.proofs.Lawful.{Sees}
use Rattle.paths.proofs.walk.set_of.Given as goal

abbrev pub invariant-loop-arc : goal.invariant-loop-arc
invariant-loop-arc l = Sees l.arcs l.arc-index l.set
