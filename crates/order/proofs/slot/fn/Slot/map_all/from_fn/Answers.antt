use Rattle.std.proofs.Common.{sym, ◌∙◌, subst}
use Rattle.order.specs.declared.slot.Slot.{Slot}
use Rattle.order.proofs.Slots.{same_slot}
use Rattle.order.proofs.slot.fn.Slot.map_all.from_fn.Goals as goal

pub returns : goal.returns
returns g c s e = subst (λ (t : Slot). g.F.Fn.post c.captures.f (t, tt) c.f.result) (same_slot c.at.result s (c.at.ensures ∙ sym e)) c.f.ensures
