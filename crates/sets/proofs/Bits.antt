-- Bits of numbers.
use Rattle.std.proofs.Common.{◌≡◌, ℕ, zero, suc, ◌+◌, ◌-◌, ◌*◌, ◌/◌, ◌%◌, ◌^◌, ◌<◌, ◌≤◌, ◌⊎◌, sym, refl, ap, ◌∙◌, ap₂, inl, inr, lt_of_lt_of_le, one-mul, pow-suc, div-one, one-add, arith, pow_mono}
use native.Mathlib.Nat.{div-eq_of_lt}
use lib.Bits.{bit_and, bit_or, bit_xor, and_zero_l, and_zero_r, or_zero_r, xor_zero_r}
use lib.Count.{count_trailing_zeros, under}
use Rattle.std.proofs.lemmas.Nat.{pow_pos, pow-add, shl-shr, shr-shr, and_shr, and_mod, and_le_l, or_shr, or_mod, xor_shr, xor_mod, pow_below, mod_below, and_mask}
use Rattle.std.proofs.lemmas.Bool.{cases_eq, cases_lt, cases_order}

-- bit n of x
abbrev pub bit : ℕ → ℕ → ℕ
bit x n = x / 2 ^ n % 2

pub zero_or_one : (x : ℕ) → (x % 2 ≡ 0) ⊎ (x % 2 ≡ 1)
zero_or_one x = go (cases_eq (x % 2) 0)
  where
    odd : (r : ℕ) → r < 2 → (r ≡ 0 → ⊥) → r ≡ 1
    odd zero l h = absurd (h refl)
    odd (suc r) l h = omega arith

    go : (x % 2 ≡ 0) ⊎ (x % 2 ≡ 0 → ⊥) → (x % 2 ≡ 0) ⊎ (x % 2 ≡ 1)
    go (inl e) = inl e
    go (inr h) = inr (odd (x % 2) (mod_below x 2 (omega arith)) h)

pub or_bit : (a b n : ℕ) → bit (bit_or a b) n ≡ bit_or (bit a n) (bit b n)
or_bit a b n = ap (λ (x : ℕ). x % 2) (or_shr a b n) ∙ or_mod (a / 2 ^ n) (b / 2 ^ n) 1

pub pow_bit : (k : ℕ) → bit (2 ^ k) k ≡ 1
pow_bit k = ap (λ (x : ℕ). x % 2) (ap (λ (y : ℕ). y / 2 ^ k) (sym (one-mul (2 ^ k))) ∙ shl-shr 1 k)

pub pow_bit_other : (k j : ℕ) → (j ≡ k → ⊥) → bit (2 ^ k) j ≡ 0
pow_bit_other k j h = go (cases_order j k)
  where
    go : (j ≡ k) ⊎ ((j < k) ⊎ (k < j)) → bit (2 ^ k) j ≡ 0
    go (inl e) = absurd (h e)
    go (inr (inl l)) =
        let d : ℕ = k - suc j in
        let e : suc d + j ≡ k = omega arith in
        let f : 2 ^ k / 2 ^ j ≡ 2 ^ d * 2 =
        ap (λ (x : ℕ). 2 ^ x / 2 ^ j) (sym e) ∙ ap (λ (x : ℕ). x / 2 ^ j) (pow-add 2 (suc d) j) ∙ shl-shr (2 ^ suc d) j ∙ pow-suc 2 d in
        omega arith
    go (inr (inr l)) = ap (λ (x : ℕ). x % 2) (div-eq_of_lt (pow_below k j l))

-- setting bit n
pub or_pow_same : (x n : ℕ) → bit (bit_or x (2 ^ n)) n ≡ 1
or_pow_same x n = or_bit x (2 ^ n) n ∙ ap (λ (y : ℕ). bit_or (bit x n) y) (pow_bit n) ∙ one (zero_or_one (x / 2 ^ n))
  where
    one : (bit x n ≡ 0) ⊎ (bit x n ≡ 1) → bit_or (bit x n) 1 ≡ 1
    one (inl e) = ap (λ (y : ℕ). bit_or y 1) e
    one (inr e) = ap (λ (y : ℕ). bit_or y 1) e

pub or_pow_other : (x n j : ℕ) → (j ≡ n → ⊥) → bit (bit_or x (2 ^ n)) j ≡ bit x j
or_pow_other x n j d = or_bit x (2 ^ n) j ∙ ap (λ (y : ℕ). bit_or (bit x j) y) (pow_bit_other n j d) ∙ or_zero_r (bit x j)

xor_bit : (a b n : ℕ) → bit (bit_xor a b) n ≡ bit_xor (bit a n) (bit b n)
xor_bit a b n = ap (λ (x : ℕ). x % 2) (xor_shr a b n) ∙ xor_mod (a / 2 ^ n) (b / 2 ^ n) 1

-- clearing bit n
pub xor_pow_same : (x n : ℕ) → bit x n ≡ 1 → bit (bit_xor x (2 ^ n)) n ≡ 0
xor_pow_same x n h = xor_bit x (2 ^ n) n ∙ ap (λ (y : ℕ). bit_xor (bit x n) y) (pow_bit n) ∙ ap (λ (y : ℕ). bit_xor y 1) h

pub xor_pow_other : (x n j : ℕ) → (j ≡ n → ⊥) → bit (bit_xor x (2 ^ n)) j ≡ bit x j
xor_pow_other x n j d = xor_bit x (2 ^ n) j ∙ ap (λ (y : ℕ). bit_xor (bit x j) y) (pow_bit_other n j d) ∙ xor_zero_r (bit x j)

pub zero_bit : (n : ℕ) → bit 0 n ≡ 0
zero_bit n = ap (λ (x : ℕ). x % 2) (div-eq_of_lt (pow_pos n))

pub low_bit : (x : ℕ) → bit_and x 1 ≡ x % 2
low_bit x = and_mask x 1

-- a number has no bit beyond its bound
pub bit_below : (m x n : ℕ) → x < 2 ^ m → bit x n ≡ 1 → n < m
bit_below m x n l h = go (cases_lt n m)
  where
    go : (n < m) ⊎ (m ≤ n) → n < m
    go (inl g) = g
    go (inr g) =
        let z : x / 2 ^ n ≡ 0 = div-eq_of_lt (lt_of_lt_of_le l (pow_mono g)) in
        absurd (omega arith)

halved : (x k : ℕ) → x / 2 / 2 ^ k ≡ x / 2 ^ suc k
halved x k = shr-shr x 1 k ∙ ap (λ (i : ℕ). x / 2 ^ i) (one-add k)

-- numbers with the same bits are equal
pub same_bits : (m x y : ℕ) → x < 2 ^ m → y < 2 ^ m → ((k : ℕ) → k < m → bit x k ≡ bit y k) → x ≡ y
same_bits zero x y lx ly h = omega arith
same_bits (suc m) x y lx ly h =
    let low : x % 2 ≡ y % 2 = sym (ap (λ (z : ℕ). z % 2) (div-one x)) ∙ h 0 (omega arith) ∙ ap (λ (z : ℕ). z % 2) (div-one y) in
    let half : x / 2 ≡ y / 2 =
    same_bits m (x / 2) (y / 2) (omega (arith, pow-suc 2 m)) (omega (arith, pow-suc 2 m))
    (λ k l. ap (λ (z : ℕ). z % 2) (halved x k) ∙ h (suc k) (omega arith) ∙ sym (ap (λ (z : ℕ). z % 2) (halved y k))) in
    omega arith

-- the bit below which a number has none
pub set_at_zeros : (k n : ℕ) → 0 < n → n < 2 ^ k → (count_trailing_zeros k n < k) × (bit n (count_trailing_zeros k n) ≡ 1)
unfolding count_trailing_zeros
set_at_zeros zero n p l = absurd (omega arith)
set_at_zeros (suc k) n p l = go (n % 2) refl (set_at_zeros k (n / 2))
  where
    go : (d : ℕ) → n % 2 ≡ d → (0 < n / 2 → n / 2 < 2 ^ k → (count_trailing_zeros k (n / 2) < k) × (bit (n / 2) (count_trailing_zeros k (n / 2)) ≡ 1))
        → (under d (count_trailing_zeros k (n / 2)) < suc k) × (bit n (under d (count_trailing_zeros k (n / 2))) ≡ 1)
    go zero e later =
        let f = later (omega arith) (omega (arith, pow-suc 2 k)) in
        (omega (arith, f.0), ap (λ (x : ℕ). x % 2) (sym (halved n (count_trailing_zeros k (n / 2)))) ∙ f.1)
    go (suc d) e later = let odd : n % 2 ≡ 1 = omega (arith, mod_below n 2 (omega arith)) in (omega arith, ap (λ (x : ℕ). x % 2) (div-one n) ∙ odd)

pub clear_below_zeros : (k n j : ℕ) → j < count_trailing_zeros k n → bit n j ≡ 0
unfolding count_trailing_zeros
clear_below_zeros zero n j l = absurd (omega arith)
clear_below_zeros (suc k) n j l = go (n % 2) refl (clear_below_zeros k (n / 2)) j l
  where
    go : (d : ℕ) → n % 2 ≡ d → ((j : ℕ) → j < count_trailing_zeros k (n / 2) → bit (n / 2) j ≡ 0) → (j : ℕ)
        → j < under d (count_trailing_zeros k (n / 2)) → bit n j ≡ 0
    go zero e later zero l = ap (λ (x : ℕ). x % 2) (div-one n) ∙ e
    go zero e later (suc j) l = ap (λ (x : ℕ). x % 2) (sym (halved n j)) ∙ later j (omega arith)
    go (suc d) e later j l = absurd (omega arith)

-- the bits that both numbers have
and_bit : (a b n : ℕ) → bit (bit_and a b) n ≡ bit_and (bit a n) (bit b n)
and_bit a b n = ap (λ (x : ℕ). x % 2) (and_shr a b n) ∙ and_mod (a / 2 ^ n) (b / 2 ^ n) 1

pub and_both : (a b n : ℕ) → bit a n ≡ 1 → bit b n ≡ 1 → bit (bit_and a b) n ≡ 1
and_both a b n e f = and_bit a b n ∙ ap₂ bit_and e f

pub and_left : (a b n : ℕ) → bit (bit_and a b) n ≡ 1 → bit a n ≡ 1
and_left a b n h = go (zero_or_one (a / 2 ^ n))
  where
    go : (bit a n ≡ 0) ⊎ (bit a n ≡ 1) → bit a n ≡ 1
    go (inl e) =
        let z : bit (bit_and a b) n ≡ 0 = and_bit a b n ∙ ap (λ (x : ℕ). bit_and x (bit b n)) e ∙ and_zero_l (bit b n) in
        absurd (omega arith)
    go (inr e) = e

pub and_right : (a b n : ℕ) → bit (bit_and a b) n ≡ 1 → bit b n ≡ 1
and_right a b n h = go (zero_or_one (b / 2 ^ n))
  where
    go : (bit b n ≡ 0) ⊎ (bit b n ≡ 1) → bit b n ≡ 1
    go (inl e) =
        let z : bit (bit_and a b) n ≡ 0 = and_bit a b n ∙ ap (λ (x : ℕ). bit_and (bit a n) x) e ∙ and_zero_r (bit a n) in
        absurd (omega arith)
    go (inr e) = e

-- a number all of whose bits another has
pub and_within : (m a b : ℕ) → a < 2 ^ m → ((k : ℕ) → bit a k ≡ 1 → bit b k ≡ 1) → bit_and a b ≡ a
and_within m a b l h = same_bits m (bit_and a b) a (omega (arith, and_le_l a b)) l (λ k _. go k (zero_or_one (a / 2 ^ k)))
  where
    go : (k : ℕ) → (bit a k ≡ 0) ⊎ (bit a k ≡ 1) → bit (bit_and a b) k ≡ bit a k
    go k (inl e) = and_bit a b k ∙ ap (λ (x : ℕ). bit_and x (bit b k)) e ∙ and_zero_l (bit b k) ∙ sym e
    go k (inr e) = and_both a b k e (h k e) ∙ sym e
