use Rattle.std.proofs.Common.{[], ◌∷◌, refl, inl, inr}
use Rattle.std.proofs.lemmas.Result.{err_from_is_err_and}
use Rattle.controller.specs.Checks.{slot_held}
use Rattle.controller.proofs.tables.Tables.remove.Goals as goal

pub returns-in_err-slot : goal.returns-in_err-slot
returns-in_err-slot c =
    let p = err_from_is_err_and c.from_residual.result c.from_residual.ensures.1 in
    rw (p.1, p.2) (λ o. record { away = c.in_err-slot.ensures o (slot_held c.args.slot ∷ []); unchanged = refl })

pub returns-in_err-slot_held : goal.returns-in_err-slot_held
returns-in_err-slot_held c =
    let e = c.in_ok-slot.ensures in
    let p = err_from_is_err_and c.from_residual-in_err-slot_held.result c.from_residual-in_err-slot_held.ensures.1 in
    rw (p.1, p.2, ← e.0) (λ o. record {
      away = inr (c.in_ok-slot.slot.in_range, inr (e.1, inr (e.2, inl (c.in_err-slot_held.ensures o))));
      unchanged = refl;
    })

pub returns : goal.returns
returns c =
    let e = c.in_ok-slot.ensures in
    λ o. rw (← e.0) (
      (c.in_ok-slot.slot.in_range, (e.1, (e.2, (c.in_ok-slot_held.ensures.0 o, tt)))),
      record { edited = c.replace.ensures.edited; same_waited = c.replace.ensures.waits },
    )
