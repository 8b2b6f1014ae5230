use Rattle.std.proofs.Common.{◌≡◌, ℕ, ◌<◌, sym, ◌∙◌, subst, arith, length-set, get_or-set_other, get_or-set_same, below_more}
use Rattle.sets.specs.Sets.{Marks}
use Rattle.dispatch.specs.Tables.{row, no_number}
use Rattle.controller.specs.Ahead.{AheadAmong}
use Rattle.controller.proofs.Entrants.{row_marks}
use Rattle.controller.proofs.precedence.precedence.Goals as goal

pub loop-slot-preserved : goal.loop-slot-preserved
loop-slot-preserved g c =
    let goes = (g.O.Order.means c.args.order.now).goes in
    let es = c.entrants_of-entrants.result in
    let i = c.loop-slot.slot in
    let rows = c.loop-slot.rows in
    let x = c.slots_behind.result in
    let at : c.at.result.number ≡ i = c.at.ensures in (
      length-set rows i x ∙ c.loop-slot.invariant.0,
      below_more _ _
          (λ k h. subst (Marks (AheadAmong goes es k)) (sym (get_or-set_other rows i k x no_number (λ e. let z : k < i = h in omega (arith, e)))) (c.loop-slot.invariant.1 k h))
          (subst (Marks (AheadAmong goes es i)) (sym (get_or-set_same rows i x no_number (omega (arith, c.loop-slot.invariant.0))))
          (subst (λ (s : ℕ). Marks (AheadAmong goes es s) x) at c.slots_behind.ensures)),
    )

pub returns : goal.returns
returns g c i l =
    let order = c.args.order.now in
    row_marks (g.O.Order.means order) c.args.board.now.tasks c.args.board.now.jobs c.entrants_of-entrants.result c.entrants_of-entrants.ensures
    i l (row c.loop-slot.rows i) (c.loop-slot.invariant.1 i (omega arith))
