-- Sets of numbers below 64, and of arcs between such numbers, as bits.
use Rattle.std.specs.Prelude.{◌≡◌, ℕ, suc, ◌/◌, ◌%◌, ◌^◌, ◌<◌, ◌⊎◌, Bool, bit_or, slice_index_or}
use Rattle.sets.specs.declared.arc_set.ArcSet.{ArcSet}
use Rattle.sets.specs.declared.bit_set.BitSet.{BitSet}
use Rattle.sets.specs.Tests.{Says}

abbrev pub Has : BitSet → ℕ → Type 0
Has s n = s.bits / 2 ^ n % 2 ≡ 1

-- r has n and what s has, and no more
pub record With (s : BitSet) (n : ℕ) (r : BitSet) : Type 0 where
  pub new : Has r n
  pub keeps : (j : ℕ) → Has s j → Has r j
  pub no_more : (j : ℕ) → Has r j → Has s j ⊎ (j ≡ n)

-- just one number has the property
pub record JustOne (P : ℕ → Type 0) : Type 0 where
  pub the_one : ℕ
  pub has_it : P the_one
  pub no_other : (w : ℕ) → P w → w ≡ the_one

-- n is the one number in s
pub record Only (s : BitSet) (n : ℕ) : Type 0 where
  pub inside : Has s n
  pub no_other : (j : ℕ) → Has s j → j ≡ n

-- s has the numbers with the property, and no other
pub record Marks (P : ℕ → Type 0) (s : BitSet) : Type 0 where
  pub only : (n : ℕ) → Has s n → P n
  pub every : (n : ℕ) → P n → Has s n

-- s has the numbers below n at which a test said yes, and no other; Answers tells what the test may say of a number
pub record Selects (Answers : ℕ → Bool → Type 0) (n : ℕ) (s : BitSet) : Type 0 where
  pub within : (k : ℕ) → Has s k → k < n
  pub tested : (k : ℕ) → k < n → (b : Bool) × Answers k b × Says b (Has s k)

-- n is the least number in s
pub record Least (s : BitSet) (n : ℕ) : Type 0 where
  pub inside : Has s n
  pub none_below : (j : ℕ) → j < n → Has s j → ⊥

-- r has what s has but n
pub record Without (s : BitSet) (n : ℕ) (r : BitSet) : Type 0 where
  pub gone : Has r n → ⊥
  pub keeps : (j : ℕ) → Has s j → (j ≡ n) ⊎ Has r j
  pub no_more : (j : ℕ) → Has r j → Has s j

-- what is in either set
infixl 30 ◌∪◌
abbrev pub ◌∪◌ : BitSet → BitSet → BitSet
s ∪ t = record { bits = bit_or s.bits t.bits }

-- s has 0 and skips no number
pub record RunsFromZero (s : BitSet) : Type 0 where
  pub has_zero : Has s 0
  pub none_skipped : (n : ℕ) → Has s (suc n) → Has s n

-- the set has an arc from u to v
abbrev pub HasArc : ArcSet → ℕ → ℕ → Type 0
HasArc s u v = Has (slice_index_or s.rows u (record { bits = 0 })) v

-- r has an arc from u to v and what s has, and no more
pub record WithArc (s : ArcSet) (u v : ℕ) (r : ArcSet) : Type 0 where
  pub new : HasArc r u v
  pub keeps : (x y : ℕ) → HasArc s x y → HasArc r x y
  pub no_more : (x y : ℕ) → HasArc r x y → HasArc s x y ⊎ ((x ≡ u) × (y ≡ v))
