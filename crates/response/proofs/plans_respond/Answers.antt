use Rattle.response.proofs.plans_respond.Goals as goal
use Rattle.response.proofs.InTime.{plans_respond_lem}

pub returns : goal.returns
returns c = plans_respond_lem
