use Rattle.sets.proofs.Bits.{and_both, and_left, and_right}
use Rattle.sets.proofs.bit_set.BitSet.common.Goals as goal

pub returns : goal.returns
returns c =
    let a = c.args.self.bits in
    let b = c.args.other.bits in
    record { only = λ n h. (and_left a b n h, and_right a b n h); every = λ n h. and_both a b n h.0 h.1 }
