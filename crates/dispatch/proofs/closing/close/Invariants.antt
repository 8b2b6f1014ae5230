use Rattle.dispatch.proofs.Lefts.{ClosingBelow}
use Rattle.dispatch.proofs.closing.close.Given as goal

abbrev pub invariant-loop-slot : goal.invariant-loop-slot
invariant-loop-slot l = ClosingBelow l.tasks l.initial.jobs l.spots l.outcomes l.slot l.ended l.jobs
