use Rattle.std.proofs.Common.{◌/◌, ◌^◌, eqb, ltb, sym, ◌∙◌, arith}
use lib.Bits.{bit_and}
use Rattle.std.proofs.lemmas.Bool.{le-ltb}
use Rattle.sets.proofs.Bits.{low_bit, bit_below}
use Rattle.sets.proofs.Says.{says_like, says_no, says_equal}
use Rattle.sets.proofs.bit_set.BitSet.has.Goals as goal

pub returns-then-n-lt64 : goal.returns-then-n-lt64
returns-then-n-lt64 c =
    let shifted = c.args.self.bits / 2 ^ c.args.n in
    says_like (eqb (bit_and shifted 1) 1) (λ e. sym (low_bit shifted) ∙ e) (λ h. low_bit shifted ∙ h) (says_equal (bit_and shifted 1) 1)

pub returns-else-n-lt64 : goal.returns-else-n-lt64
returns-else-n-lt64 c =
    says_no (ltb c.args.n 64) (le-ltb c.args.n 64 (omega arith))
    (λ h. let l = bit_below 64 c.args.self.bits c.args.n (omega arith) h in omega arith)
