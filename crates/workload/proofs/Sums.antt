-- Sums below a number, compared term by term, and the greatest of a row of values.
use Rattle.std.proofs.Common.{◌≡◌, ℕ, zero, suc, ◌+◌, ◌<◌, ◌≤◌, max, ◌≢◌, refl, not-suc-le-zero, arith}
use native.Mathlib.Decide.{dec_lt, ℕ_discrete}
use Rattle.workload.specs.Measures.{sum_below}

pub sum_below_le : (f g : ℕ → ℕ) (n : ℕ) → ((k : ℕ) → k < n → f k ≤ g k) → sum_below n f ≤ sum_below n g
sum_below_le f g zero h = omega arith
sum_below_le f g (suc n) h = omega (arith, sum_below_le f g n (λ k l. h k (omega arith)), h n (omega arith))

pub sum_below_same : (f g : ℕ → ℕ) (n : ℕ) → ((k : ℕ) → k < n → f k ≡ g k) → sum_below n f ≡ sum_below n g
sum_below_same f g zero h = refl
sum_below_same f g (suc n) h = omega (arith, sum_below_same f g n (λ k l. h k (omega arith)), h n (omega arith))

pub sum_below_none : (f : ℕ → ℕ) (n : ℕ) → ((k : ℕ) → k < n → f k ≡ 0) → sum_below n f ≡ 0
sum_below_none f zero h = refl
sum_below_none f (suc n) h = omega (arith, sum_below_none f n (λ k l. h k (omega arith)), h n (omega arith))

-- two sums that differ in one term
pub sum_below_one : (f g : ℕ → ℕ) (a d n : ℕ) → a < n → g a ≡ f a + d → ((k : ℕ) → k < n → k ≢ a → g k ≡ f k) → sum_below n g ≡ sum_below n f + d
sum_below_one f g a d zero l e same = absurd (not-suc-le-zero l)
sum_below_one f g a d (suc n) l e same =
    elim (ℕ_discrete a n) [
      | yes here ↦
          let at : g n ≡ f n + d = rw here at e in
          omega (arith, sum_below_same g f n (λ k m. same k (omega arith) (omega arith)))
      | no there ↦ omega (arith, sum_below_one f g a d n (omega arith) e (λ k m. same k (omega arith)), same n (omega arith) (omega arith))
    ]

-- one term is greater by at most d
pub sum_below_raised : (f g : ℕ → ℕ) (a d n : ℕ) → g a ≤ f a + d → ((k : ℕ) → k < n → k ≢ a → g k ≤ f k) → sum_below n g ≤ sum_below n f + d
sum_below_raised f g a d zero e less = omega arith
sum_below_raised f g a d (suc n) e less =
    elim (ℕ_discrete a n) [
      | yes here ↦
          let at : g n ≤ f n + d = rw here at e in
          omega (arith, sum_below_le g f n (λ k m. less k (omega arith) (omega arith)))
      | no there ↦ omega (arith, sum_below_raised f g a d n e (λ k m. less k (omega arith)), less n (omega arith) (omega arith))
    ]

pub term_below_sum : (f : ℕ → ℕ) (n k : ℕ) → k < n → f k ≤ sum_below n f
term_below_sum f zero k l = absurd (not-suc-le-zero l)
term_below_sum f (suc n) k l =
    elim (ℕ_discrete k n) [ yes e ↦ rw e (omega arith) | no d ↦ omega (arith, term_below_sum f n k (omega arith)) ]

-- the greatest of f 0 .. f (n - 1)
abbrev pub best_of : ℕ → (ℕ → ℕ) → ℕ
best_of zero f = 0
best_of (suc n) f = max (best_of n f) (f n)

pub best_bounds : (f : ℕ → ℕ) (n k : ℕ) → k < n → f k ≤ best_of n f
best_bounds f zero k l = absurd (not-suc-le-zero l)
best_bounds f (suc n) k l =
    elim (dec_lt k n) [
      | yes m ↦ omega (arith, best_bounds f n k m)
      | no m ↦
          let e : k ≡ n = omega arith in
          rw e (omega arith)
    ]

pub best_least : (f : ℕ → ℕ) (n m : ℕ) → ((k : ℕ) → k < n → f k ≤ m) → best_of n f ≤ m
best_least f zero m h = omega arith
best_least f (suc n) m h = omega (arith, best_least f n m (λ k l. h k (omega arith)), h n (omega arith))

pub best_raised : (f g : ℕ → ℕ) (n d : ℕ) → ((k : ℕ) → g k ≤ f k + d) → best_of n g ≤ best_of n f + d
best_raised f g n d h = best_least g n (best_of n f + d) (λ k l. omega (arith, h k, best_bounds f n k l))
