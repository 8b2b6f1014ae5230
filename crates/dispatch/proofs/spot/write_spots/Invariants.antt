use Rattle.dispatch.specs.Spots.{Written}
use Rattle.dispatch.proofs.spot.write_spots.Given as goal

abbrev pub invariant-loop-core : goal.invariant-loop-core
invariant-loop-core l = Written l.spots l.core l.initial.list l.list
