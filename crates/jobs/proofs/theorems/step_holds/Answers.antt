use Rattle.jobs.proofs.Step.{step_holds_lem}
use Rattle.jobs.proofs.theorems.step_holds.Goals as goal

pub returns : goal.returns
returns c = step_holds_lem
