-- Quotients rounded up.
use Rattle.std.proofs.Common.{◌≡◌, ℕ, zero, suc, ◌+◌, ◌-◌, ◌*◌, ◌/◌, ◌%◌, ◌<◌, ◌≤◌, min, sym, inl, inr, mul-le-mul_right, mod-lt, mul-le-mul_left, arith}
use native.Mathlib.Nat.{div-eq_of_lt-le, div-add-mod}
use Rattle.std.proofs.lemmas.Bool.{cases_lt}
use Rattle.bounds.specs.Equation.{div_ceil}

pub up_enough : (a b : ℕ) → 1 ≤ b → a ≤ b * div_ceil a b
up_enough a b h = omega arith

pub up_mono : (a b c : ℕ) → 1 ≤ c → a ≤ b → div_ceil a c ≤ div_ceil b c
up_mono a b c k h = elim (cases_lt (div_ceil b c) (div_ceil a c)) [ inr l ↦ l | inl l ↦ absurd (omega (arith, mul-le-mul_left c l)) ]

-- as the code works it out
pub up_is : (a b : ℕ) → 1 ≤ b → a / b + min 1 (a % b) ≡ div_ceil a b
up_is a b h = sym (div-eq_of_lt-le {k = a / b + min 1 (a % b)} b {m = a + (b - 1)} (low (a / b) (a % b) e) (high (a / b) (a % b) e l))
  where
    e : b * (a / b) + a % b ≡ a
    e = div-add-mod a b

    l : a % b < b
    l = mod-lt a h

    low : (q r : ℕ) → b * q + r ≡ a → (q + min 1 r) * b ≤ a + (b - 1)
    low q zero x = omega arith
    low q (suc r) x = let y : min 1 (suc r) ≡ 1 = omega arith in rw y (omega arith)

    high : (q r : ℕ) → b * q + r ≡ a → r < b → a + (b - 1) < (q + min 1 r + 1) * b
    high q zero x y = omega arith
    high q (suc r) x y = let z : min 1 (suc r) ≡ 1 = omega arith in rw z (omega arith)

pub up_small : (a b : ℕ) → 1 ≤ b → div_ceil a b ≤ a
up_small a b h =
    elim (cases_lt a (div_ceil a b)) [
      | inr l ↦ l
      | inl l ↦ absurd (omega (arith, mul-le-mul_left b l, mul-le-mul_right a h))
    ]
