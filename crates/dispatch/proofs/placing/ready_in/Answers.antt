use Rattle.std.proofs.Common.{rules}
use Rattle.dispatch.proofs.Rows.{ready_there}
use Rattle.dispatch.proofs.placing.ready_in.Goals as goal

pub returns : goal.returns
returns c =
    ready_there c.args.tasks.now c.args.jobs.now c.args.slot c.open_in.result c.map_or.result c.requires c.open_in.ensures
    (λ e. rw e at c.map_or.ensures) (λ x e. let h = rw e at c.map_or.ensures in search rules)
