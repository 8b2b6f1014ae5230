use Rattle.plans.proofs.NoFlaw.{no_flaw_lem}
use Rattle.plans.proofs.parse.no_flaw.Goals as goal

pub returns : goal.returns
returns c = no_flaw_lem
