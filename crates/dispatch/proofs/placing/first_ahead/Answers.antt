use Rattle.dispatch.proofs.Rows.{none_ahead_more}
use Rattle.dispatch.proofs.placing.first_ahead.Goals as goal
use Rattle.dispatch.proofs.placing.first_ahead.Goals.{in-Some+else-is_within, in_default}

pub loop-slot-preserved : goal.loop-slot-preserved
loop-slot-preserved c =
    none_ahead_more c.args.nodes.now c.args.waiting c.args.ahead.now c.loop-slot.slot c.loop-slot.invariant
    (elim c.match-least_node.branch [
      | in-Some+else-is_within w ↦ λ v h a. w.if-is_within.ensures a
      | in_default w ↦ λ v h a. w.in_default.ensures v h
    ])
