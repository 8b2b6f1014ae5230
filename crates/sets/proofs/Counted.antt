-- How many numbers are left in a set.
use Rattle.std.proofs.Common.{◌≡◌, ℕ, zero, suc, ◌+◌, ◌/◌, ◌^◌, ◌<◌, ◌≤◌, ◌⊎◌, sym, subst, inl, inr, arith}
use Rattle.std.proofs.lemmas.Bool.{cases_eq}
use Rattle.sets.specs.declared.bit_set.BitSet.{BitSet}
use Rattle.sets.specs.Sets.{Has, Without}
use Rattle.sets.specs.InTurn.{count_below}
use Rattle.sets.proofs.Bits.{bit, zero_or_one}

module _ (s r : BitSet) (n : ℕ) (inside : Has s n) (without : Without s n r) where
  bit_falls : (k : ℕ) → bit r.bits k ≤ bit s.bits k
  bit_falls k = go (zero_or_one (r.bits / 2 ^ k))
    where
      go : (bit r.bits k ≡ 0) ⊎ (bit r.bits k ≡ 1) → bit r.bits k ≤ bit s.bits k
      go (inl e) = omega arith
      go (inr e) = omega (arith, without.no_more k e)

  count_falls : (m : ℕ) → count_below m r ≤ count_below m s
  unfolding count_below
  count_falls zero = omega arith
  count_falls (suc m) = omega (arith, count_falls m, bit_falls m)

  -- a set loses a number
  pub count_drops : (m : ℕ) → n < m → count_below m r < count_below m s
  unfolding count_below
  count_drops zero l = absurd (omega arith)
  count_drops (suc m) l = go (cases_eq n m) (λ h. count_drops m h)
    where
      go : (n ≡ m) ⊎ (n ≡ m → ⊥) → (n < m → count_below m r < count_below m s) → count_below m r + bit r.bits m < count_below m s + bit s.bits m
      go (inl e) later =
          let set : bit s.bits m ≡ 1 = subst (λ (x : ℕ). bit s.bits x ≡ 1) e inside in
          let clear : bit r.bits m ≡ 0 = cleared (zero_or_one (r.bits / 2 ^ m)) in
          omega (arith, count_falls m)
        where
          cleared : (bit r.bits m ≡ 0) ⊎ (bit r.bits m ≡ 1) → bit r.bits m ≡ 0
          cleared (inl z) = z
          cleared (inr h) = absurd (without.gone (subst (λ (x : ℕ). Has r x) (sym e) h))
      go (inr d) later = omega (arith, later (grind arith), bit_falls m)
