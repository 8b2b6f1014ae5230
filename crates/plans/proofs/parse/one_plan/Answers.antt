use Rattle.plans.proofs.OneText.{one_plan_lem}
use Rattle.plans.proofs.parse.one_plan.Goals as goal

pub returns : goal.returns
returns c = one_plan_lem
