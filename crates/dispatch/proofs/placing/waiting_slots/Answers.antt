use Rattle.std.proofs.Common.{rules}
use Rattle.sets.proofs.Selected.{selected}
use Rattle.dispatch.proofs.placing.waiting_slots.Goals as goal

pub returns : goal.returns
returns c = selected c.select.ensures (λ s b l k. search rules) (λ s p. p.1.slot_below)
