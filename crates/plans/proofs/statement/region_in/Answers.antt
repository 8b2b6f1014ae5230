use Rattle.std.proofs.Common.{rules}
use Rattle.plans.specs.Statements.{texts, RegionSaid}
use Rattle.plans.proofs.Saying.{unfound, home_unsaid, branch_unsaid, branch_said}
use Rattle.plans.proofs.statement.region_in.Goals as goal

pub returns-in_err-home-in-in : goal.returns-in_err-home-in-in
returns-in_err-home-in-in c =
    unfound (RegionSaid (texts c.args.words.now)) c.from_residual.result (search rules) (home_unsaid c.args.words.now (search rules) (search rules))

pub returns-in_err-branch-in-in : goal.returns-in_err-branch-in-in
returns-in_err-branch-in-in c =
    unfound (RegionSaid (texts c.args.words.now)) c.from_residual-in_err-branch-in-in.result (search rules)
    (branch_unsaid c.args.words.now (search rules) (search rules))

pub returns-in_ok-branch-in-in : goal.returns-in_ok-branch-in-in
returns-in_ok-branch-in-in c =
    branch_said c.args.words.now _ _ (search rules) c.in-in.is-in c.in-in.is-branch (search rules) (search rules)
