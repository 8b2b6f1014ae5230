use Rattle.dispatch.specs.Tables.{task_nodes, task_arcs}
use Rattle.dispatch.proofs.Readies.{ready_struck}
use Rattle.dispatch.proofs.board.OpenJob.ready_nodes.Goals as goal

pub returns : goal.returns
returns c =
    let task = c.args.self.now.task.now in
    let pending = c.pending in
    ready_struck (task_nodes task) (task_arcs task) c.args.self.now.job.now.states pending.result.under_way pending.result.may_start c.strike.result
    pending.ensures.ranged pending.ensures.under pending.ensures.may (rw c.arcs.ensures at c.strike.ensures)
