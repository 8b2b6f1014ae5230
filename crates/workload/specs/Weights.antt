-- Rows of weights, one for each opening with a place for each branch.
use Rattle.std.specs.Prelude.{◌≡◌, ℕ, ◌+◌, ◌^◌, ◌<◌, ◌≤◌, ◌≢◌, List, [], length, slice_index, slice_index_or}
use Rattle.table.specs.declared.records.Region.{Region}
use Rattle.table.specs.declared.records.Region.TheVariants.{Branch}

-- what branch b of h weighs
abbrev pub weighed : List (List ℕ) → ℕ → ℕ → ℕ
weighed rows h b = slice_index (slice_index_or rows h []) b

-- b is the first of the heaviest in a row of eight
pub record Heaviest (row : List ℕ) (b : ℕ) : Type 0 where
  pub in_row : b < 8
  pub most : (k : ℕ) → k < 8 → slice_index row k ≤ slice_index row b
  pub first : (k : ℕ) → k < b → slice_index row k < slice_index row b

-- each row has its eight places
abbrev pub EightWide : List (List ℕ) → Type 0
EightWide rows = (h : ℕ) → h < 64 → length (slice_index_or rows h []) ≡ 8

-- there is a place for the region, and room to add to it
pub record Room (rows : List (List ℕ)) (r : Region) (gain : ℕ) : Type 0 where
  pub wide : EightWide rows
  pub home : (h b : ℕ) → r ≡ Branch h b → h < 64
  pub branch : (h b : ℕ) → r ≡ Branch h b → b < 8
  pub sum : (h b : ℕ) → r ≡ Branch h b → weighed rows h b + gain < 2 ^ 64

-- the region weighs more by the gain, and the others what they did
pub record Added (rows : List (List ℕ)) (r : Region) (gain : ℕ) (after : List (List ℕ)) : Type 0 where
  pub wide : EightWide after
  pub here : (h b : ℕ) → r ≡ Branch h b → weighed after h b ≡ weighed rows h b + gain
  pub elsewhere : (h b : ℕ) → r ≢ Branch h b → weighed after h b ≡ weighed rows h b
