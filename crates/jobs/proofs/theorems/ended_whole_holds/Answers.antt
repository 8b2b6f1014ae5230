use Rattle.jobs.proofs.Whole.{ended_whole_holds_lem}
use Rattle.jobs.proofs.theorems.ended_whole_holds.Goals as goal

pub returns : goal.returns
returns c = ended_whole_holds_lem
