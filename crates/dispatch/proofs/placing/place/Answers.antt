use Rattle.dispatch.specs.Tables.{AheadIn}
use Rattle.dispatch.proofs.Alike.{placed_alike}
use Rattle.dispatch.proofs.Rows.{rows_alike}
use Rattle.dispatch.proofs.placing.place.Goals as goal

pub returns : goal.returns
returns c =
    placed_alike
    (rows_alike c.args.tasks.now c.args.jobs.now c.ready_by_slot.result c.kept_by_slot.result (AheadIn c.args.ahead.now) c.ready_by_slot.ensures c.kept_by_slot.ensures)
    c.args.cores c.fill.result.spots c.fill.result.busy c.fill.ensures
