use Rattle.dispatch.proofs.Ticks.{right_is_allowed}
use Rattle.dispatch.proofs.theorems.right_is_allowed_holds.Goals as goal

pub returns : goal.returns
returns c = right_is_allowed
