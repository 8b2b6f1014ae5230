use Rattle.sets.proofs.Says.{says_like}
use Rattle.task.proofs.Branched.{run_marked, marked_run}
use Rattle.task.proofs.graph.Graph.counts_up.Goals as goal

pub returns-else-not-is_opening : goal.returns-else-not-is_opening
returns-else-not-is_opening c =
    let ns = c.args.self.now.nodes.now in
    let marked = c.branches_of.ensures in
    says_like c.runs_from_zero.result (λ runs _. run_marked ns c.args.v c.branches_of.result marked runs)
    (λ up. marked_run ns c.args.v c.branches_of.result marked (up c.if-not-is_opening.ensures)) c.runs_from_zero.ensures
