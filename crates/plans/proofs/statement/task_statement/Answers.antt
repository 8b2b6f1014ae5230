use Rattle.std.proofs.Common.{rules}
use Rattle.plans.specs.Statements.{told_table}
use Rattle.plans.proofs.Saying.{unheard, task_unsaid_slot, task_said, task_untold}
use Rattle.plans.proofs.statement.task_statement.Goals as goal

pub returns-in_err-slot : goal.returns-in_err-slot
returns-in_err-slot c = unheard _ _ _ (search rules) (task_unsaid_slot c.args.words.now (search rules) (search rules))

pub returns-in_err-origin : goal.returns-in_err-origin
returns-in_err-origin c = unheard _ _ _ (search rules) (task_untold c.args.words.now (search rules) c.in_err-origin.ensures)

pub returns : goal.returns
returns c = task_said c.args.words.now c.in_ok-slot.slot (told_table c.in_ok-origin.origin) (search rules) (search rules) (search rules) c.in_ok-origin.ensures
