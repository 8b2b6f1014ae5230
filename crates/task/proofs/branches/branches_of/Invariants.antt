use Rattle.sets.specs.Sets.{Marks}
use Rattle.sets.proofs.Marked.{SomeBelow}
use Rattle.task.proofs.Branched.{LiesInBranch}
use Rattle.task.proofs.branches.branches_of.Given as goal

abbrev pub invariant-loop-node : goal.invariant-loop-node
invariant-loop-node l = Marks (SomeBelow (LiesInBranch l.nodes l.opening) l.node-index) l.branches
