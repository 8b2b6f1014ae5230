use Rattle.std.proofs.Common.{arith}
use Rattle.dispatch.proofs.Writes.{written_none, written_more}
use Rattle.dispatch.proofs.spot.write_spots.Goals as goal

pub loop-core-init : goal.loop-core-init
loop-core-init c = written_none c.args.spots.now c.args.list.now

pub loop-core-preserved : goal.loop-core-preserved
loop-core-preserved c = written_more c.args.spots.now c.loop-core.core c.args.list.now c.loop-core.list c.told.result (omega arith) c.told.ensures c.loop-core.invariant
