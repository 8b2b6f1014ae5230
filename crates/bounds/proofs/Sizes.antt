-- Numbers that fit.
use Rattle.std.proofs.Common.{ℕ, ◌-◌, ◌*◌, ◌^◌, ◌<◌, ◌≤◌, mul-le-mul, arith}

pub window_small : (m window : ℕ) → m ≤ 16 → window < 2 ^ 33 → m * window ≤ 2 ^ 37
window_small m window hm hw =
    let w : window ≤ 2 ^ 33 = omega arith in
    let a : m * window ≤ 16 * 2 ^ 33 = mul-le-mul hm w in
    omega arith

pub work_small : (m W window jobs : ℕ) → m ≤ 16 → W ≤ 4194240 → window < 2 ^ 33 → jobs ≤ m * window - W → W * jobs ≤ 2 ^ 59
work_small m W window jobs hm hW hw h =
    let a = window_small m window hm hw in
    let j : jobs ≤ 2 ^ 37 = omega arith in
    let p : W * jobs ≤ 4194240 * 2 ^ 37 = mul-le-mul hW j in
    omega arith
