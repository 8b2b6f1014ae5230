-- What the answer of a test says of a property.
use Rattle.std.specs.Prelude.{ℕ, ◌<◌, Bool, true, false, Some, None, Option}

-- yes where the property holds, no where it does not
abbrev pub Says : Bool → Type 0 → Type 0
Says true P = P
Says false P = P → ⊥

-- k is the first number below n that lacks the property
pub record FailsFirst (P : ℕ → Type 0) (n k : ℕ) : Type 0 where
  pub within : k < n
  pub fails : P k → ⊥
  pub none_before : (j : ℕ) → j < k → P j

-- the first number below n that lacks the property, or none where all have it
abbrev pub Tried : (ℕ → Type 0) → ℕ → Option ℕ → Type 0
Tried P n (Some k) = FailsFirst P n k
Tried P n None = (k : ℕ) → k < n → P k
