-- Sums over the numbers below a bound.
use Rattle.std.proofs.Common.{◌≡◌, ℕ, zero, suc, ◌+◌, ◌*◌, ◌^◌, ◌<◌, ◌≤◌, List, [], ◌∷◌, length, get_or, refl, sym, ap, ◌∙◌, inl, inr, arith}
use Rattle.std.specs.List.{sum}
use Rattle.std.proofs.lemmas.Bool.{cases_eq}
use Rattle.std.proofs.lemmas.List.Sums.{sum_by-cons}
use Rattle.bounds.specs.Equation.{sum_to}

pub sum_none : (f : ℕ → ℕ) → sum_to 0 f ≡ 0
unfolding sum_to
sum_none f = refl

sum_suc : (n : ℕ) (f : ℕ → ℕ) → sum_to (suc n) f ≡ f n + sum_to n f
unfolding sum_to
sum_suc n f = refl

pub sum_mono : (n : ℕ) (f g : ℕ → ℕ) → ((i : ℕ) → i < n → f i ≤ g i) → sum_to n f ≤ sum_to n g
sum_mono zero f g h = omega (arith, sum_none f)
sum_mono (suc n) f g h = omega (arith, sum_suc n f, sum_suc n g, h n (omega arith), sum_mono n f g (λ i l. h i (omega arith)))

pub sum_grows : (n k : ℕ) (f g : ℕ → ℕ) → ((i : ℕ) → i < n → f i ≤ g i) → k < n → f k < g k → sum_to n f < sum_to n g
sum_grows zero k f g h l s = absurd (omega arith)
sum_grows (suc n) k f g h l s =
    elim (cases_eq n k) [
      | inl e ↦ omega (arith, ap f e, ap g e, sum_suc n f, sum_suc n g, sum_mono n f g (λ i l. h i (omega arith)))
      | inr ne ↦ omega (arith, sum_suc n f, sum_suc n g, h n (omega arith), sum_grows n k f g (λ i l. h i (omega arith)) (omega arith) s)
    ]

pub sum_small : (n c : ℕ) (f : ℕ → ℕ) → ((i : ℕ) → i < n → f i ≤ c) → sum_to n f ≤ n * c
sum_small zero c f h = omega (arith, sum_none f)
sum_small (suc n) c f h = omega (arith, sum_suc n f, h n (omega arith), sum_small n c f (λ i l. h i (omega arith)))

pub sum_same : (n : ℕ) (f g : ℕ → ℕ) → ((i : ℕ) → i < n → f i ≡ g i) → sum_to n f ≡ sum_to n g
sum_same n f g h =
    omega (arith, sum_mono n f g (λ i l. omega (arith, h i l)), sum_mono n g f (λ i l. omega (arith, h i l)))

sum_first : (n : ℕ) (f : ℕ → ℕ) → sum_to (suc n) f ≡ f 0 + sum_to n (λ i. f (suc i))
sum_first zero f = omega (arith, sum_suc 0 f, sum_none f, sum_none (λ i. f (suc i)))
sum_first (suc n) f = omega (arith, sum_suc (suc n) f, sum_first n f, sum_suc n (λ i. f (suc i)))

-- the sum of a list, place by place
pub sum_list : (xs : List ℕ) (f : ℕ → ℕ) → ((i : ℕ) → i < length xs → get_or xs i 0 ≡ f i) → sum xs ≡ sum_to (length xs) f
sum_list [] f h = sym (sum_none f)
sum_list (x ∷ xs) f h =
    omega (
      arith,
      sum_by-cons (λ (a : ℕ). a) x xs,
      h 0 (omega arith),
      sum_list xs (λ i. f (suc i)) (λ i l. h (suc i) (omega arith)),
      sum_first (length xs) f,
    )

-- sixteen numbers that fit
pub sum_slots : (xs : List ℕ) (f : ℕ → ℕ) → length xs ≡ 16 → ((i : ℕ) → i < 16 → (get_or xs i 0 ≡ f i) × (f i ≤ 2 ^ 59))
    → (sum xs ≡ sum_to 16 f) × (sum xs ≤ 2 ^ 63)
sum_slots xs f long at =
    let e : sum xs ≡ sum_to 16 f = sum_list xs f (λ i l. (at i (omega arith)).0) ∙ ap (λ (n : ℕ). sum_to n f) long in
    (e, omega (arith, e, sum_small 16 (2 ^ 59) f (λ i l. (at i l).1)))
