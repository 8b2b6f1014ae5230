use Rattle.sets.proofs.Marked.{one_marked}
use Rattle.sets.proofs.Says.{says_like}
use Rattle.task.proofs.Mated.{closed_by}
use Rattle.task.proofs.graph.Graph.closed_once.Goals as goal

pub returns-in-Some : goal.returns-in-Some
returns-in-Some c =
    let marked = c.closings_of.ensures in
    let alone = c.in-Some.ensures in
    let closing = c.in-Some.closing in
    says_like c.side_by_side.result (closed_by c.args.self.now.nodes.now c.args.opening closing c.closings_of.result marked alone)
    (λ once. once.beside closing (marked.only closing alone.inside)) c.side_by_side.ensures

pub returns-in-None : goal.returns-in-None
returns-in-None c = λ once. c.in-None.ensures (one_marked c.closings_of.ensures once.one_closing)
