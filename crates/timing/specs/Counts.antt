-- Counts and sums over lists, and a test of the numbers below a bound. Assumes nothing.
use Rattle.std.specs.Prelude.{ℕ, zero, suc, ◌+◌, Bool, true, false, ◌&&◌, List, [], ◌∷◌, nat_eq}

abbrev pub bit : Bool → ℕ
bit true = 1
bit false = 0

-- how many elements pass the test
abbrev pub count_if : {X : Type 0} → (X → Bool) → List X → ℕ
count_if p [] = 0
count_if p (x ∷ xs) = bit (p x) + count_if p xs

-- how often v stands in the list
abbrev pub times : ℕ → List ℕ → ℕ
times v xs = count_if (nat_eq v) xs

abbrev pub sum_of : {X : Type 0} → (X → ℕ) → List X → ℕ
sum_of f [] = 0
sum_of f (x ∷ xs) = f x + sum_of f xs

-- the test passes for every number below n
abbrev pub all_below : ℕ → (ℕ → Bool) → Bool
all_below zero p = true
all_below (suc n) p = p n && all_below n p
