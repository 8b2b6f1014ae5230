use Rattle.std.proofs.Common.{rules}
use Rattle.plans.proofs.Saying.{slot_told}
use Rattle.plans.proofs.statement.slot_named.Goals as goal

pub returns : goal.returns
returns c = slot_told c.args.words.now c.byte_in.result (search rules) c.in-task.is-task c.in-task.is-slot c.byte_in.ensures
