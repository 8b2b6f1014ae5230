use Rattle.std.proofs.Common.{rules}
use Rattle.dispatch.proofs.Nexts.{next_found}
use Rattle.dispatch.proofs.placing.next_node.Goals as goal

pub returns : goal.returns
returns c =
    next_found c.args.left.now c.args.kept.now c.args.ahead.now c.common_rows-both.result c.waiting_slots-waiting.result
    c.waiting_slots-waiting.ensures c.common_rows-both.ensures c.first_ahead.result c.or_else.result c.first_ahead.ensures
    (λ e. let h = rw e at c.or_else.ensures in search rules) (λ p e. rw e at c.or_else.ensures)
