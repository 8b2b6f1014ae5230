use Rattle.jobs.proofs.Progress.{progress_holds_lem}
use Rattle.jobs.proofs.theorems.progress_holds.Goals as goal

pub returns : goal.returns
returns c = progress_holds_lem
