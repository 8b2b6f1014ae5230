use Rattle.jobs.proofs.Close.{close_holds_lem}
use Rattle.jobs.proofs.theorems.close_holds.Goals as goal

pub returns : goal.returns
returns c = close_holds_lem
