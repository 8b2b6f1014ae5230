use Rattle.std.proofs.Common.{rules}
use Rattle.sets.proofs.Selected.{selected}
use Rattle.sets.proofs.bit_set.BitSet.below.Goals as goal

pub returns : goal.returns
returns c = selected c.select.ensures (λ k b l a. search rules) (λ k l. l)
