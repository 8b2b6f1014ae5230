use Rattle.std.proofs.Common.{rules}
use Rattle.sets.proofs.Says.{says_like}
use Rattle.sets.proofs.Selected.{selected}
use Rattle.task.proofs.Ended.{outermost_outside, outside_outermost, outermost_is_node}
use Rattle.task.proofs.graph.Graph.outermost.Goals as goal

pub returns : goal.returns
returns c =
    let ns = c.args.self.now.nodes.now in
    let arcs = c.args.self.now.arcs.now in
    let end = c.args.end in
    let met = c.met_by-met.result in
    let marked = c.met_by-met.ensures in
    selected c.select.ensures
    (λ k b l a. says_like b (outermost_outside ns arcs met end marked k l) (outside_outermost ns arcs met end marked k) (search rules))
    (outermost_is_node ns arcs end)
