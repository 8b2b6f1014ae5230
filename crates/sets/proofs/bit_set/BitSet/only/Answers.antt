use Rattle.std.proofs.Common.{sym, ◌∙◌, arith}
use lib.Count.{count_trailing_zeros}
use Rattle.std.proofs.lemmas.Nat.{one_shl, pow_below}
use Rattle.sets.proofs.Bits.{set_at_zeros}
use Rattle.sets.proofs.Marked.{only_pow, pow_only}
use Rattle.sets.proofs.bit_set.BitSet.only.Goals as goal

pub returns-then-self-least : goal.returns-then-self-least
returns-then-self-least c =
    let least = count_trailing_zeros 64 c.args.self.bits in
    let below = (set_at_zeros 64 c.args.self.bits (omega arith) (omega arith)).0 in
    only_pow c.args.self least (c.if-self-least.true ∙ one_shl least 64 below)

pub returns-else-self-least : goal.returns-else-self-least
returns-else-self-least c =
    let least = count_trailing_zeros 64 c.args.self.bits in
    let set = set_at_zeros 64 c.args.self.bits (omega arith) (omega arith) in
    λ one. c.if-self-least.false (pow_only c.args.self least (omega arith) (pow_below least 64 set.0) set.1 one ∙ sym (one_shl least 64 set.0))
