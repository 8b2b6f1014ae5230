-- Which slots are pending, and how many.
use Rattle.std.proofs.Common.{◌≡◌, ℕ, ◌/◌, ◌^◌, ◌<◌, ◌≤◌, ◌⊎◌, List, get_or, Some, None, Option, inl, inr, arith}
use Rattle.sets.specs.Sets.{Has, Without, ◌∪◌}
use Rattle.sets.specs.declared.bit_set.BitSet.{BitSet}
use Rattle.sets.proofs.Bits.{bit, zero_or_one}
use Rattle.sets.proofs.Unions.{in_left, in_right, in_either}
use Rattle.bounds.specs.Steps.{count, Reopened}
use Rattle.bounds.proofs.Sums.{sum_grows, sum_small}

pub count_small : (s : BitSet) → count s ≤ 16
count_small s = omega (arith, sum_small 16 1 (bit s.bits) (λ k _. one (bit s.bits k) (zero_or_one (s.bits / 2 ^ k))))
  where
    one : (x : ℕ) → (x ≡ 0) ⊎ (x ≡ 1) → x ≤ 1
    one x (inl e) = omega arith
    one x (inr e) = omega arith

pub count_less : (s r : BitSet) (k : ℕ) → k < 16 → Has s k → Without s k r → count r < count s
count_less s r k l h w =
    sum_grows 16 k (bit r.bits) (bit s.bits) (λ j _. no_more j (zero_or_one (r.bits / 2 ^ j))) l (gone (zero_or_one (r.bits / 2 ^ k)))
  where
    no_more : (j : ℕ) → (bit r.bits j ≡ 0) ⊎ (bit r.bits j ≡ 1) → bit r.bits j ≤ bit s.bits j
    no_more j (inl e) = omega arith
    no_more j (inr e) = omega (arith, w.no_more j e)

    gone : (bit r.bits k ≡ 0) ⊎ (bit r.bits k ≡ 1) → bit r.bits k < bit s.bits k
    gone (inl e) = omega arith
    gone (inr e) = absurd (w.gone e)

-- what is pending, and t, where t has each slot that the row does not cap at 0
pub reopened_union : (s t : BitSet) (row : List (Option ℕ)) → ((k : ℕ) → Has t k → k < 16) → ((k : ℕ) → k < 16 → Has t k ⊎ (get_or row k None ≡ Some 0))
    → Reopened s row (s ∪ t)
reopened_union s t row small told =
    record {
      keeps = λ k h. in_left s t k h;
      no_more = λ k h. elim (in_either s t k h) [ inl a ↦ inl a | inr b ↦ inr (small k b) ];
      shut = λ k l out. elim (told k l) [ inl a ↦ absurd (out (in_right s t k a)) | inr e ↦ e ];
    }
