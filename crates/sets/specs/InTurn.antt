-- Going over the numbers of a set.
use Rattle.std.specs.Prelude.{◌≡◌, ℕ, zero, suc, ◌+◌, ◌/◌, ◌%◌, ◌^◌, ◌<◌, Some, None, Option}
use Rattle.sets.specs.declared.bit_set.BitSet.{BitSet}
use Rattle.sets.specs.Sets.{Has, Least, Without}

-- how many numbers below m are in s
unfoldable pub count_below : ℕ → BitSet → ℕ
count_below zero s = 0
count_below (suc m) s = count_below m s + s.bits / 2 ^ m % 2

-- n is the least number of s, and the others are fewer
pub record TakenOut (s : BitSet) (n : ℕ) (others : BitSet) : Type 0 where
  pub least : Least s n
  pub rest : Without s n others
  pub fewer : count_below 64 others < count_below 64 s

-- the least number of s is given, or none where it has none, and the others are left
abbrev pub GivesLeast : BitSet → Option ℕ → BitSet → Type 0
GivesLeast s (Some n) others = TakenOut s n others
GivesLeast s None others = ((n : ℕ) → Has s n → ⊥) × (others ≡ s)
