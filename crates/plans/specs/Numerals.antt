-- Numbers as they are written. Assumes nothing.
use Rattle.std.specs.Prelude.{◌≡◌, ℕ, ◌≤◌, List, Some, None, Option}
use Rattle.std.specs.Str.Parse.{IsNumeral, without_leading_plus, digits_value}

-- the word is n in decimal digits, a plus before them or not, and n is at most so much
pub record Counts (most : ℕ) (word : List ℕ) (n : ℕ) : Type 0 where
  pub digits : IsNumeral 10 (without_leading_plus word)
  pub value : n ≡ digits_value 10 (without_leading_plus word)
  pub small : n ≤ most

-- the number that the word is, if it is one
abbrev pub Counted : ℕ → List ℕ → Option ℕ → Type 0
Counted most word (Some n) = Counts most word n
Counted most word None = (n : ℕ) → Counts most word n → ⊥
