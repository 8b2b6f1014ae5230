use Rattle.std.proofs.Common.{ap, ◌∙◌, inl, inr, arith}
use Rattle.std.proofs.lemmas.Result.{err_from_is_err_and}
use Rattle.controller.specs.declared.refusal.Refusal.TheVariants.{ShortList}
use Rattle.controller.proofs.Deciding.{no_order}
use Rattle.controller.proofs.tables.Tables.may_tick.Goals as goal

pub returns-in_err-no_tick_open : goal.returns-in_err-no_tick_open
returns-in_err-no_tick_open c =
    let p = err_from_is_err_and c.from_residual.result c.from_residual.ensures.1 in
    rw (p.1, p.2) (λ o. inl (c.in_err-no_tick_open.ensures o))

pub returns-in_err-has_room : goal.returns-in_err-has_room
returns-in_err-has_room c =
    let p = err_from_is_err_and c.from_residual-in_err-has_room.result c.from_residual-in_err-has_room.ensures.1 in
    let e = c.in_err-has_room.ensures in
    rw (p.1, p.2) (λ o. inr (c.in_ok-no_tick_open.ensures o, inl (omega (arith, e.0, c.from.ensures), e.1 ∙ ap ShortList c.from.ensures)))

pub returns : goal.returns
returns c = (c.in_ok-no_tick_open.ensures no_order, omega (arith, c.in_ok-has_room.ensures, c.from.ensures))
