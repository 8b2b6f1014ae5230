-- A longest path L and a work W make a weight.
use Rattle.std.proofs.Common.{ℕ, ◌+◌, ◌-◌, ◌*◌, ◌≤◌, mul-le-mul_left, arith}

-- what `close` asks, where a tick more stays within L and W
pub weighs : (m L W c o : ℕ) → c + 1 ≤ L → o + 1 ≤ W → (m - 1) * (c + 1) + o + 1 ≤ (m - 1) * L + W
weighs m L W c o h k = scaled (m - 1)
  where
    scaled : (d : ℕ) → d * (c + 1) + o + 1 ≤ d * L + W
    scaled d = omega (arith, mul-le-mul_left d h)

-- what `work_in_weight` asks
pub work_weighs : (m L W : ℕ) → 1 ≤ L → W + (m - 1) ≤ (m - 1) * L + W
work_weighs m L W h = omega (arith, mul-le-mul_left (m - 1) h)
