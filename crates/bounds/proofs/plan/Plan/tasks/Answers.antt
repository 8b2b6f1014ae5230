use Rattle.std.proofs.Common.{◌≡◌, rules}
use Rattle.std.specs.Option.{is_some}
use Rattle.sets.proofs.Selected.{selected}
use Rattle.bounds.specs.Equation.{held}
use Rattle.bounds.proofs.Sides.{some_says}
use Rattle.bounds.proofs.plan.Plan.tasks.Goals as goal

pub returns : goal.returns
returns c =
    let plan = c.args.self.now in
    selected c.select.ensures (λ k b l a. let e : b ≡ is_some (held plan k) = search rules in some_says plan k b l e) (λ k h. h.0)
