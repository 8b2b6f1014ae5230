use Rattle.std.proofs.Common.{ℕ, sym, subst, arith}
use lib.Bits.{bit_xor}
use Rattle.std.proofs.lemmas.Nat.{one_shl}
use Rattle.sets.specs.Sets.{Without}
use Rattle.sets.proofs.Bits.{bit_below}
use Rattle.sets.proofs.Marked.{xor_without}
use Rattle.sets.proofs.bit_set.BitSet.without.Goals as goal

pub overflow_shl-result : goal.overflow_shl-result
overflow_shl-result c = bit_below 64 c.args.self.bits c.args.n (omega arith) c.requires

pub returns : goal.returns
returns c =
    let below = bit_below 64 c.args.self.bits c.args.n (omega arith) c.requires in
    subst (λ (x : ℕ). Without c.args.self c.args.n (record { bits = bit_xor c.args.self.bits x })) (sym (one_shl c.args.n 64 below))
    (xor_without c.args.self.bits c.args.n c.requires)
