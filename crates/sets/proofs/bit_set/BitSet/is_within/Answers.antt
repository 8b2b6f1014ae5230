use Rattle.std.proofs.Common.{◌≡◌, ℕ, eqb, sym, subst, arith}
use lib.Bits.{bit_and}
use Rattle.sets.proofs.Bits.{bit, and_right, and_within}
use Rattle.sets.proofs.Says.{says_like, says_equal}
use Rattle.sets.proofs.bit_set.BitSet.is_within.Goals as goal

pub returns : goal.returns
returns c =
    let a = c.args.self.bits in
    let b = c.args.other.bits in
    says_like (eqb (bit_and a b) a) (λ e n h. and_right a b n (subst (λ (x : ℕ). bit x n ≡ 1) (sym e) h)) (λ h. and_within 64 a b (omega arith) h)
    (says_equal (bit_and a b) a)
