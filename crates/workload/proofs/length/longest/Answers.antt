use Rattle.workload.proofs.Longest.{greatest_longest}
use Rattle.workload.proofs.length.longest.Goals as goal

pub returns : goal.returns
returns c =
    greatest_longest c.args.graph.now.nodes.now c.args.graph.now.arcs.now c.lengths.result c.greatest.result c.args.graph.now.ranged c.lengths.ensures
    c.greatest.ensures
