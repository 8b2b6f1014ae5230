use Rattle.jobs.proofs.Close.{below_greatest_holds_lem}
use Rattle.jobs.proofs.theorems.below_greatest_holds.Goals as goal

pub returns : goal.returns
returns c = below_greatest_holds_lem
