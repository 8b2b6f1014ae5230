use Rattle.std.proofs.Common.{rules}
use Rattle.plans.proofs.Saying.{unheard, arc_unsaid_to}
use Rattle.plans.proofs.statement.arc_statement.Goals as goal

pub returns-in_err-to : goal.returns-in_err-to
returns-in_err-to c = unheard _ _ _ (search rules) (arc_unsaid_to c.args.words.now (search rules) (search rules))
