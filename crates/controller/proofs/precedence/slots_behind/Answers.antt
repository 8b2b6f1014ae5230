use Rattle.std.proofs.Common.{rules}
use Rattle.sets.proofs.Selected.{selected}
use Rattle.controller.proofs.precedence.slots_behind.Goals as goal

pub returns : goal.returns
returns g c = selected c.select.ensures (λ k b l a. search rules) (λ k p. p.0)
