use Rattle.dispatch.specs.Search.{RowHas}
use Rattle.dispatch.specs.Tables.{AheadIn}
use Rattle.dispatch.proofs.Fills.{Filling}
use Rattle.dispatch.proofs.placing.fill.Given as goal

abbrev pub invariant-loop-core : goal.invariant-loop-core
invariant-loop-core l = Filling l.ready (RowHas l.kept) (AheadIn l.ahead) l.spots l.left l.core
