-- The greatest of a list of numbers. Assumes nothing.
use Rattle.std.specs.Prelude.{◌≡◌, ℕ, ◌<◌, ◌≤◌, ◌⊎◌, List, length, slice_index}

-- no value is greater, and the number is one of the values, or 0
pub record GreatestOf (values : List ℕ) (most : ℕ) : Type 0 where
  pub at_most : (k : ℕ) → k < length values → slice_index values k ≤ most
  pub attained : (most ≡ 0) ⊎ ((k : ℕ) × (k < length values) × (slice_index values k ≡ most))
