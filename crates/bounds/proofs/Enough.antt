-- A solution leaves more core-ticks than are needed.
use Rattle.std.proofs.Common.{◌≡◌, ℕ, suc, ◌+◌, ◌-◌, ◌*◌, ◌<◌, ◌≤◌, ap, arith}
use Rattle.bounds.specs.Equation.{div_ceil, cap_of, spread, interference, BoundsEnough}
use Rattle.bounds.proofs.Rounding.{up_enough}

spread_enough' : (n m L W X q : ℕ) → m ≡ suc n → (W - L) + X ≤ m * q → n * L + W + X < m * ((L + q) + 1)
spread_enough' n m L W X q e h = omega (arith, ap (λ (x : ℕ). x * L) e)

spread_enough : (m L W X : ℕ) → 1 ≤ m → (m - 1) * L + W + X < m * (spread m L W X + 1)
spread_enough m L W X h = spread_enough' (m - 1) m L W X (div_ceil ((W - L) + X) m) (omega arith) (up_enough ((W - L) + X) m h)

pub bounds_enough_lem : BoundsEnough
bounds_enough_lem most p R s k d l h =
    omega (
      arith,
      ap (λ (x : ℕ). p.cores * (x + 1)) (s.equal k d l h),
      spread_enough p.cores d.longest d.total (interference (cap_of most R k d) p R k) (omega arith),
    )
