use Rattle.dispatch.proofs.Lefts.{one_closing}
use Rattle.dispatch.proofs.theorems.one_closing_holds.Goals as goal

pub returns : goal.returns
returns c = one_closing
