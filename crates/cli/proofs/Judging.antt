-- The answer on the bounds of a plan, under the order that is asked.
use Rattle.std.proofs.Common.{◌≡◌, ℕ, List, Option, Result, sym, subst}
use Rattle.bounds.specs.declared.plan.Demand.{Demand}
use Rattle.bounds.specs.declared.plan.Plan.{Plan}
use Rattle.bounds.specs.declared.rise.Passed.{Passed}
use Rattle.bounds.specs.Equation.{Told}
use Rattle.plans.specs.declared.plan.Precedence.{Precedence}
use Rattle.cli.specs.Verdicts.{Answered, caps_under}

pub answered : (cores : ℕ) (order under : Precedence) (slots : List (Option Demand)) (plan : Plan) (answer : Result (List ℕ) Passed)
    → order ≡ under → plan.cores ≡ cores → plan.slots ≡ slots → Told (caps_under under) plan answer → Answered cores slots (caps_under order) answer
answered cores order under slots plan answer o c s t =
    record { plan = plan; cores_are = c; slots_are = s; told = subst (λ (x : Precedence). Told (caps_under x) plan answer) (sym o) t }
