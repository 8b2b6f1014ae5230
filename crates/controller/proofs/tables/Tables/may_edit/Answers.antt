use Rattle.std.proofs.Common.{inl, inr, arith}
use Rattle.std.proofs.lemmas.Result.{err_from_is_err_and}
use Rattle.controller.proofs.Deciding.{no_order}
use Rattle.controller.proofs.tables.Tables.may_edit.Goals as goal

pub returns-in_err-slot : goal.returns-in_err-slot
returns-in_err-slot c =
    let p = err_from_is_err_and c.from_residual.result c.from_residual.ensures.1 in
    rw (p.1, p.2) (λ o rest. inl c.in_err-slot.ensures)

pub returns-in_err-no_tick_open : goal.returns-in_err-no_tick_open
returns-in_err-no_tick_open c =
    let p = err_from_is_err_and c.from_residual-in_err-no_tick_open.result c.from_residual-in_err-no_tick_open.ensures.1 in
    let l = c.in_ok-slot.slot.in_range in
    rw (p.1, p.2) (λ o rest. inr (omega (arith, c.in_ok-slot.ensures), inl (c.in_err-no_tick_open.ensures o)))

pub returns-in_err-no_job_open : goal.returns-in_err-no_job_open
returns-in_err-no_job_open c =
    let p = err_from_is_err_and c.from_residual-in_err-no_job_open.result c.from_residual-in_err-no_job_open.ensures.1 in
    let l = c.in_ok-slot.slot.in_range in
    rw (p.1, p.2) (λ o rest. inr (omega (arith, c.in_ok-slot.ensures), inr (c.in_ok-no_tick_open.ensures o, inl (c.in_err-no_job_open.ensures o))))

pub returns : goal.returns
returns c = (c.in_ok-slot.ensures, c.in_ok-no_tick_open.ensures no_order, c.in_ok-no_job_open.ensures no_order)
