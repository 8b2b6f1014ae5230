use Rattle.std.proofs.Common.{rules, Option, sym, subst}
use Rattle.sets.specs.Tests.{Says}
use Rattle.dispatch.specs.declared.spot.Spot.{Spot}
use Rattle.dispatch.specs.Moves.{said, Suits}
use Rattle.dispatch.proofs.Rights.{right_says}
use Rattle.dispatch.proofs.closing.is_right.Goals as goal

pub returns-in-Some : goal.returns-in-Some
returns-in-Some c =
    let tasks = c.args.tasks.now in
    let jobs = c.args.jobs.now in
    let o = said c.args.outcome in
    subst (λ (x : Option Spot). Says c.is_some_and.result (Suits tasks jobs x o)) (sym c.in-Some.is)
    (right_says tasks jobs c.in-Some.field-0 o c.open_in.result c.is_some_and.result c.open_in.ensures (λ e. rw e at c.is_some_and.ensures)
    (λ x e. let h = rw e at c.is_some_and.ensures in search rules))
