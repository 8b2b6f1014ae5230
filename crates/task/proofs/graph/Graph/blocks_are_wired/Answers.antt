use Rattle.std.proofs.Common.{rules}
use Rattle.task.specs.Gates.{Gated}
use Rattle.task.proofs.Tested.{tried_like, tried_by_test}
use Rattle.task.proofs.Wires.{wired_gates, gates_wired}
use Rattle.task.proofs.graph.Graph.blocks_are_wired.Goals as goal

pub returns : goal.returns
returns c =
    let graph = c.args.self.now in
    let ns = graph.nodes.now in
    let arcs = graph.arcs.now in
    let gates = c.gates-gates.result in
    tried_like c.find.result (λ v n. wired_gates ns arcs gates graph.ranged c.requires.paired.0 c.requires.paired.1 c.gates-gates.ensures v n)
    (λ v n. gates_wired ns arcs gates graph.ranged c.requires.paired.0 c.requires.paired.1 c.gates-gates.ensures v n)
    (tried_by_test (Gated ns gates) _ _ _ _ c.find.ensures.ran (λ x b q k. search rules))
