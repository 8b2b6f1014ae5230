use Rattle.std.proofs.Common.{ℕ, sym, subst}
use lib.Bits.{bit_or}
use Rattle.std.proofs.lemmas.Nat.{one_shl}
use Rattle.sets.specs.Sets.{With}
use Rattle.sets.proofs.Marked.{or_with}
use Rattle.sets.proofs.bit_set.BitSet.with.Goals as goal

pub returns : goal.returns
returns c =
    subst (λ (x : ℕ). With c.args.self c.args.n (record { bits = bit_or c.args.self.bits x })) (sym (one_shl c.args.n 64 c.requires))
    (or_with c.args.self.bits c.args.n)
