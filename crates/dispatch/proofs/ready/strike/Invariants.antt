use Rattle.sets.specs.Sets.{Marks}
use Rattle.dispatch.specs.Search.{Struck}
use Rattle.dispatch.proofs.ready.strike.Given as goal

abbrev pub invariant-loop-arc : goal.invariant-loop-arc
invariant-loop-arc l = Marks (Struck l.arcs l.under l.initial.left l.arc-index) l.left
