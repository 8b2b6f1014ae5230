use Rattle.sets.proofs.Marked.{MarksBelow}
use Rattle.workload.specs.Settling.{Takes}
use Rattle.workload.specs.Worst.{pick_of}
use Rattle.workload.proofs.taken.taken.Given as goal

abbrev pub invariant-loop-v : goal.invariant-loop-v
invariant-loop-v l = MarksBelow (Takes l.nodes (pick_of l.picks)) l.v l.taken
