use Rattle.plans.proofs.Unambiguous.{one_statement_lem}
use Rattle.plans.proofs.parse.one_statement.Goals as goal

pub returns : goal.returns
returns c = one_statement_lem
