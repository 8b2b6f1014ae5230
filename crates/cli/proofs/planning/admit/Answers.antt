use Rattle.std.proofs.Common.{rules}
use Rattle.cli.proofs.Judging.{answered}
use Rattle.cli.proofs.planning.admit.Goals as goal

pub returns-in_ok-least_bounds-in-Fixed : goal.returns-in_ok-least_bounds-in-Fixed
returns-in_ok-least_bounds-in-Fixed c = answered _ _ _ _ c.in_ok-plan.plan _ c.in-Fixed.is (search rules) (search rules) (search rules)

pub returns-in_ok-least_bounds-in-Open : goal.returns-in_ok-least_bounds-in-Open
returns-in_ok-least_bounds-in-Open c = answered _ _ _ _ c.in_ok-plan.plan _ c.in-Open.is (search rules) (search rules) (search rules)
