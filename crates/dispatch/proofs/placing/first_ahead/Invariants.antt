use Rattle.dispatch.specs.Search.{NoneAhead}
use Rattle.dispatch.proofs.placing.first_ahead.Given as goal

abbrev pub invariant-loop-slot : goal.invariant-loop-slot
invariant-loop-slot l = NoneAhead l.nodes l.waiting l.ahead l.slot
