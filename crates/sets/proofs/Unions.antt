-- What is in a union of two sets.
use Rattle.std.specs.Prelude.{◌≡◌, ℕ, ◌/◌, ◌^◌, ◌⊎◌, bit_or}
use Rattle.std.proofs.Common.{sym, ap, ◌∙◌, inl, inr}
use Rattle.std.proofs.lemmas.Nat.{or_comm}
use Rattle.sets.specs.declared.bit_set.BitSet.{BitSet}
use Rattle.sets.specs.Sets.{Has, ◌∪◌}
use Rattle.sets.proofs.Bits.{bit, zero_or_one, or_bit}

pub in_left : (a b : BitSet) (n : ℕ) → Has a n → Has (a ∪ b) n
in_left a b n h = or_bit a.bits b.bits n ∙ ap (λ (x : ℕ). bit_or x (bit b.bits n)) h ∙ one (zero_or_one (b.bits / 2 ^ n))
  where
    one : (bit b.bits n ≡ 0) ⊎ (bit b.bits n ≡ 1) → bit_or 1 (bit b.bits n) ≡ 1
    one (inl e) = ap (bit_or 1) e
    one (inr e) = ap (bit_or 1) e

pub in_right : (a b : BitSet) (n : ℕ) → Has b n → Has (a ∪ b) n
in_right a b n h = ap (λ (x : ℕ). bit x n) (or_comm a.bits b.bits) ∙ in_left b a n h

pub in_either : (a b : BitSet) (n : ℕ) → Has (a ∪ b) n → Has a n ⊎ Has b n
in_either a b n h = go (zero_or_one (a.bits / 2 ^ n))
  where
    go : (bit a.bits n ≡ 0) ⊎ (bit a.bits n ≡ 1) → Has a n ⊎ Has b n
    go (inl e) = inr (sym (or_bit a.bits b.bits n ∙ ap (λ (x : ℕ). bit_or x (bit b.bits n)) e) ∙ h)
    go (inr e) = inl e
