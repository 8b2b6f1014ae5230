-- Laws of counts and sums.
use Rattle.std.proofs.Common.{◌≡◌, ℕ, zero, suc, ◌+◌, ◌*◌, ◌<◌, ◌≤◌, Bool, true, false, eqb, List, [], ◌∷◌, length, refl, ap, inl, inr, arith}
use Rattle.std.proofs.lemmas.Bool.Decides.{nat_tests}
use Rattle.std.proofs.lemmas.Bool.{cases_eq}
use Rattle.std.specs.List.{AllByRecursion}
use Rattle.bounds.specs.Equation.{sum_to, apart_from}
use Rattle.bounds.proofs.Sums.{sum_mono}
use Rattle.timing.specs.Counts.{bit, count_if, times, sum_of}
use Rattle.timing.specs.Window.{in_window}

pub count_if_mono : {X : Type 0} (p q : X → Bool) (Q : X → Type 0) → ((x : X) → Q x → bit (p x) ≤ bit (q x)) → (xs : List X) → AllByRecursion Q xs → count_if p xs ≤ count_if q xs
count_if_mono p q Q h [] a = omega arith
count_if_mono p q Q h (x ∷ xs) a = omega (arith, h x a.0, count_if_mono p q Q h xs a.1)

bit_one : (b : Bool) → bit b ≤ 1
bit_one true = omega arith
bit_one false = omega arith

pub count_if_length : {X : Type 0} (p : X → Bool) (xs : List X) → count_if p xs ≤ length xs
count_if_length p [] = omega arith
count_if_length p (x ∷ xs) = omega (arith, bit_one (p x), count_if_length p xs)

-- one tick more in the window
window_more : (a d t : ℕ) → bit (in_window a (suc d) t) ≡ bit (in_window a d t) + bit (eqb (a + d) t)
window_more a d t = grind (arith, nat_tests)

window_none : (a t : ℕ) → bit (in_window a 0 t) ≡ 0
window_none a t = grind (arith, nat_tests)

pub count_none : (a : ℕ) (xs : List ℕ) → count_if (in_window a 0) xs ≡ 0
count_none a [] = refl
count_none a (x ∷ xs) = omega (arith, window_none a x, count_none a xs)

pub count_more : (a d : ℕ) (xs : List ℕ) → count_if (in_window a (suc d)) xs ≡ count_if (in_window a d) xs + times (a + d) xs
count_more a d [] = omega arith
count_more a d (x ∷ xs) = omega (arith, window_more a d x, count_more a d xs)

-- a list in which no number stands more than m times has at most m * d entries in a window of d ticks
pub count_narrow : (m a d : ℕ) (xs : List ℕ) → ((t : ℕ) → times t xs ≤ m) → count_if (in_window a d) xs ≤ m * d
count_narrow m a zero xs h = omega (arith, count_none a xs)
count_narrow m a (suc d) xs h = omega (arith, count_more a d xs, h (a + d), count_narrow m a d xs h)

pub sum_of_mono : {X : Type 0} (f g : X → ℕ) → ((x : X) → f x ≤ g x) → (xs : List X) → sum_of f xs ≤ sum_of g xs
sum_of_mono f g h [] = omega arith
sum_of_mono f g h (x ∷ xs) = omega (arith, h x, sum_of_mono f g h xs)

pub sum_to_add : (n : ℕ) (f g : ℕ → ℕ) → sum_to n (λ i. f i + g i) ≡ sum_to n f + sum_to n g
unfolding sum_to
sum_to_add zero f g = omega arith
sum_to_add (suc n) f g = omega (arith, sum_to_add n f g)

pub sum_to_none : (n : ℕ) → sum_to n (λ i. 0) ≡ 0
unfolding sum_to
sum_to_none zero = refl
sum_to_none (suc n) = omega (arith, sum_to_none n)

apart_same : (k : ℕ) (f : ℕ → ℕ) → apart_from k f k ≡ 0
apart_same k f = grind (arith, nat_tests)

pub apart_other : (k i : ℕ) (f : ℕ → ℕ) → (i ≡ k → ⊥) → apart_from k f i ≡ f i
apart_other k i f h = grind (arith, nat_tests)

pub apart_le : (k i : ℕ) (f : ℕ → ℕ) → apart_from k f i ≤ f i
apart_le k i f = grind (arith, nat_tests)

sum_to_apart_above : (n k : ℕ) (f : ℕ → ℕ) → n ≤ k → sum_to n (apart_from k f) ≡ sum_to n f
unfolding sum_to
sum_to_apart_above zero k f h = refl
sum_to_apart_above (suc n) k f h = omega (arith, apart_other k n f (omega arith), sum_to_apart_above n k f (omega arith))

-- a sum is one term and the others
pub sum_to_split : (n k : ℕ) (f : ℕ → ℕ) → k < n → sum_to n f ≡ f k + sum_to n (apart_from k f)
unfolding sum_to
sum_to_split zero k f h = omega arith
sum_to_split (suc n) k f h = elim (cases_eq n k) [ inl e ↦ at_last e | inr ne ↦ omega (arith, apart_other k n f ne, sum_to_split n k f (omega arith)) ]
  where
    at_last : n ≡ k → sum_to (suc n) f ≡ f k + sum_to (suc n) (apart_from k f)
    at_last e = omega (arith, ap f e, ap (apart_from k f) e, apart_same k f, sum_to_apart_above n k f (omega arith))

-- the sum over the others is monotone
pub others_mono : (n k : ℕ) (f g : ℕ → ℕ) → ((i : ℕ) → i < n → (i ≡ k → ⊥) → f i ≤ g i) → sum_to n (apart_from k f) ≤ sum_to n (apart_from k g)
others_mono n k f g h = sum_mono n (apart_from k f) (apart_from k g) (λ i l. elim (cases_eq i k) [ inl e ↦ same i e | inr ne ↦ omega (arith, apart_other k i f ne, apart_other k i g ne, h i l ne) ])
  where
    same : (i : ℕ) → i ≡ k → apart_from k f i ≤ apart_from k g i
    same i e = omega (arith, ap (apart_from k f) e, ap (apart_from k g) e, apart_same k f, apart_same k g)

others_add : (n k : ℕ) (f g : ℕ → ℕ) → sum_to n (apart_from k (λ i. f i + g i)) ≡ sum_to n (apart_from k f) + sum_to n (apart_from k g)
unfolding sum_to
others_add zero k f g = omega arith
others_add (suc n) k f g = omega (arith, here, others_add n k f g)
  where
    here : apart_from k (λ i. f i + g i) n ≡ apart_from k f n + apart_from k g n
    here = grind (arith, nat_tests)

-- where each of the others grows by c i, their sum grows by that of c
pub others_grow : (n k : ℕ) (f g c : ℕ → ℕ) → ((i : ℕ) → i < n → (i ≡ k → ⊥) → f i + c i ≤ g i) → sum_to n (apart_from k f) + sum_to n (apart_from k c) ≤ sum_to n (apart_from k g)
others_grow n k f g c h = omega (arith, others_add n k f c, others_mono n k (λ i. f i + c i) g h)

-- one of the numbers below n is v
pub one_node : (n v : ℕ) → v < n → sum_to n (λ u. bit (eqb u v)) ≡ 1
unfolding sum_to
one_node zero v l = absurd (omega arith)
one_node (suc n) v l = elim (cases_eq n v) [ inl e ↦ last e | inr ne ↦ omega (arith, other ne, one_node n v (omega arith)) ]
  where
    none_above : (k : ℕ) → k ≤ v → sum_to k (λ u. bit (eqb u v)) ≡ 0
    none_above zero h = refl
    none_above (suc k) h = omega (arith, differs k (omega arith), none_above k (omega arith))
      where
        differs : (u : ℕ) → u < v → bit (eqb u v) ≡ 0
        differs u h = grind (arith, nat_tests)

    same : n ≡ v → bit (eqb n v) ≡ 1
    same e = grind (arith, nat_tests)

    other : (n ≡ v → ⊥) → bit (eqb n v) ≡ 0
    other ne = grind (arith, nat_tests)

    last : n ≡ v → bit (eqb n v) + sum_to n (λ u. bit (eqb u v)) ≡ 1
    last e = omega (arith, same e, none_above n (omega arith))
