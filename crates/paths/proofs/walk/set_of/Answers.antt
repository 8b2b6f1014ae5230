use Rattle.std.proofs.Common.{arith}
use Rattle.task.proofs.Lawful.{sees_none, sees_more}
use Rattle.paths.proofs.Known.{ends_small, all_seen}
use Rattle.paths.proofs.walk.set_of.Goals as goal

pub insert-requires : goal.insert-requires
insert-requires c =
    rw (c.from.ensures, c.from-in-loop-arc.ensures)
    (ends_small c.args.nodes.now c.args.arcs.now c.requires c.loop-arc.arc-index c.loop-arc-test.true)

pub loop-arc-init : goal.loop-arc-init
loop-arc-init c = sees_none c.args.arcs.now c.new-set.result c.new-set.ensures

pub loop-arc-preserved : goal.loop-arc-preserved
loop-arc-preserved c =
    sees_more c.args.arcs.now c.loop-arc.arc-index c.loop-arc.set c.insert.new.self c.loop-arc.invariant
    (rw (c.from.ensures, c.from-in-loop-arc.ensures) at c.insert.ensures)

pub returns : goal.returns
returns c = all_seen c.args.arcs.now c.loop-arc.arc-index c.loop-arc.set (omega arith) c.loop-arc.invariant
