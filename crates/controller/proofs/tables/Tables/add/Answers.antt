use Rattle.std.proofs.Common.{ℕ, [], ◌∷◌, set, None, refl, ap, ◌∙◌, inl, inr}
use Rattle.std.proofs.lemmas.Result.{err_from_is_err_and}
use Rattle.controller.specs.Checks.{slot_free, table_lawful}
use Rattle.controller.proofs.Editing.{put_elsewhere}
use Rattle.controller.proofs.tables.Tables.add.Goals as goal

pub returns-in_err-slot : goal.returns-in_err-slot
returns-in_err-slot c =
    let p = err_from_is_err_and c.from_residual.result c.from_residual.ensures.1 in
    rw (p.1, p.2) (λ o. record {
      away = c.in_err-slot.ensures o (slot_free c.args.slot ∷ table_lawful c.args.bytes.now ∷ []);
      unchanged = refl;
    })

pub returns-in_err-slot_free : goal.returns-in_err-slot_free
returns-in_err-slot_free c =
    let e = c.in_ok-slot.ensures in
    let p = err_from_is_err_and c.from_residual-in_err-slot_free.result c.from_residual-in_err-slot_free.ensures.1 in
    rw (p.1, p.2, ← e.0) (λ o. record {
      away = inr (c.in_ok-slot.slot.in_range, inr (e.1, inr (e.2, inl (c.in_err-slot_free.ensures o))));
      unchanged = refl;
    })

pub returns-in_err-task : goal.returns-in_err-task
returns-in_err-task c =
    let e = c.in_ok-slot.ensures in
    let p = err_from_is_err_and c.from_residual-in_err-task.result c.from_residual-in_err-task.ensures.1 in
    rw (p.1, p.2, ← e.0) (λ o. record {
      away = inr (
        c.in_ok-slot.slot.in_range,
        inr (e.1, inr (e.2, inr (c.in_ok-slot_free.ensures o, inl (c.in_err-task.field-0.0, c.in_err-task.ensures, refl)))),
      );
      unchanged = refl;
    })

pub returns : goal.returns
returns c =
    let e = c.in_ok-slot.ensures in
    λ o. rw (← e.0) (
      (c.in_ok-slot.slot.in_range, (e.1, (e.2, (c.in_ok-slot_free.ensures o, ((c.in_ok-task.task.table, c.in_ok-task.ensures), tt))))),
      record {
        task = c.in_ok-task.task;
        described = c.in_ok-task.ensures;
        put = put_elsewhere c.args.self.now _ c.put.new.self c.in_ok-slot.slot.number c.in_ok-slot.slot.number c.in_ok-task.task c.put.result refl refl refl refl refl
            c.put.ensures.put;
        never_released = c.put.ensures.waits ∙ ap (λ (x : ℕ). set c.args.self.now.waited x None) c.index.ensures.value;
      },
    )
