use Rattle.std.proofs.Common.{arith}
use Rattle.sets.proofs.Bits.{set_at_zeros, clear_below_zeros}
use Rattle.sets.proofs.Marked.{none_in_zero}
use Rattle.sets.proofs.bit_set.BitSet.least.Goals as goal

pub returns-then-self-eq0 : goal.returns-then-self-eq0
returns-then-self-eq0 c = none_in_zero c.args.self c.if-self-eq0.true

pub returns : goal.returns
returns c =
    let bits = c.args.self.bits in
    record {
      inside = (set_at_zeros 64 bits (omega arith) (omega arith)).1;
      none_below = λ j l h. omega (arith, clear_below_zeros 64 bits j l);
    }
