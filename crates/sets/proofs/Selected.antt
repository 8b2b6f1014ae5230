-- Sets of the numbers at which a test says yes.
use Rattle.std.proofs.Common.{◌≡◌, ℕ, ◌+◌, ◌<◌, ◌⊎◌, Bool, true, false, sym, subst, inl, inr, arith}
use Rattle.std.proofs.lemmas.Bool.{cases_eq}
use Rattle.sets.specs.Sets.{Has, With, Marks, Selects}
use Rattle.sets.specs.Tests.{Says}
use Rattle.sets.specs.declared.bit_set.BitSet.{BitSet}
use Rattle.sets.proofs.Says.{says_like}

module _ (A : ℕ → Bool → Type 0) (n : ℕ) where
  -- the test of n says yes
  pub select_yes : (s r : BitSet) → Selects A n s → With s n r → A n true → Selects A (n + 1) r
  select_yes s r old new said =
      record { within = λ k h. within k (new.no_more k h); tested = λ k l. tested k l (cases_eq k n) }
    where
      within : (k : ℕ) → Has s k ⊎ (k ≡ n) → k < n + 1
      within k (inl h) = let l = old.within k h in omega arith
      within k (inr e) = omega arith

      old_one : (k : ℕ) → (k ≡ n → ⊥) → Has s k ⊎ (k ≡ n) → Has s k
      old_one k d (inl h) = h
      old_one k d (inr e) = absurd (d e)

      tested : (k : ℕ) → k < n + 1 → (k ≡ n) ⊎ (k ≡ n → ⊥) → (b : Bool) × A k b × Says b (Has r k)
      tested k l (inl e) = subst (λ (i : ℕ). (b : Bool) × A i b × Says b (Has r i)) (sym e) (true, said, new.new)
      tested k l (inr d) =
          let t = old.tested k (grind arith) in
          (t.0, t.1, says_like t.0 (new.keeps k) (λ h. old_one k d (new.no_more k h)) t.2)

  -- the test of n says no
  pub select_no : (s : BitSet) → Selects A n s → A n false → Selects A (n + 1) s
  select_no s old said =
      record { within = λ k h. let l = old.within k h in omega arith; tested = λ k l. tested k l (cases_eq k n) }
    where
      tested : (k : ℕ) → k < n + 1 → (k ≡ n) ⊎ (k ≡ n → ⊥) → (b : Bool) × A k b × Says b (Has s k)
      tested k l (inl e) =
          subst (λ (i : ℕ). (b : Bool) × A i b × Says b (Has s i)) (sym e)
          (false, said, λ h. let less = old.within n h in omega arith)
      tested k l (inr d) = old.tested k (grind arith)

-- Where the test tells whether P holds, and P holds of no other number, the set marks P.
pub selected : {A : ℕ → Bool → Type 0} {P : ℕ → Type 0} {n : ℕ} {s : BitSet} → Selects A n s → ((k : ℕ) (b : Bool) → k < n → A k b → Says b (P k)) → ((k : ℕ) → P k → k < n) → Marks P s
selected {P = P} {n = n} {s = s} all told few =
    record { only = λ k h. only k h (all.within k h); every = λ k p. every k p (few k p) }
  where
    both : (k : ℕ) (b : Bool) → Says b (P k) → Says b (Has s k) → (Has s k → P k) × (P k → Has s k)
    both k true p h = ((λ _. p), (λ _. h))
    both k false p h = ((λ g. absurd (h g)), (λ g. absurd (p g)))

    agree : (k : ℕ) → k < n → (Has s k → P k) × (P k → Has s k)
    agree k l =
        let t = all.tested k l in
        both k t.0 (told k t.0 l t.1) t.2

    only : (k : ℕ) → Has s k → k < n → P k
    only k h l = (agree k l).0 h

    every : (k : ℕ) → P k → k < n → Has s k
    every k p l = (agree k l).1 p
