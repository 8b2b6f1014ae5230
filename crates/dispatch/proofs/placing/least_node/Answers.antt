use Rattle.std.proofs.Common.{arith}
use Rattle.sets.specs.Sets.{Least}
use Rattle.sets.proofs.Bits.{bit_below}
use Rattle.dispatch.proofs.placing.least_node.Goals as goal

pub map-requires : goal.map-requires
map-requires c = λ n e _ _.
    let least : Least c.args.nodes n = rw e at c.least.ensures in
    let l = bit_below 64 c.args.nodes.bits n (omega arith) least.inside in
    omega arith
