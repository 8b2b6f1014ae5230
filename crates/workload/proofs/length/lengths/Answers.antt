use Rattle.std.proofs.Common.{refl, arith}
use Rattle.workload.proofs.Longest.{walked_lengths}
use Rattle.workload.proofs.length.lengths.Goals as goal

pub returns : goal.returns
returns c =
    walked_lengths c.args.graph.now.nodes.now c.args.graph.now.arcs.now c.args.graph.now.ranged c.below.result c.walk.result _ c.walk.new.values c.below.ensures
    c.walk.ensures refl (omega (arith, c.walk.ensures.same_length))
