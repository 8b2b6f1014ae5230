-- What the jobs of one task use of m cores in a window of ticks. Assumes nothing.
use Rattle.std.specs.Prelude.{ℕ, ◌+◌, ◌*◌, ◌<◌, ◌≤◌, Bool, cond, ◌&&◌, List, [], ◌∷◌, length, nat_le, nat_lt}
use Rattle.std.specs.List.{AllByRecursion}
use Rattle.bounds.specs.Equation.{jobs_in}
use Rattle.timing.specs.Counts.{count_if, times, sum_of}

-- a job: its release, and the ticks in which it used a core, each as often as it used one
pub record Job : Type 0 where
  pub released : ℕ
  pub spent : List ℕ

-- the job used cores only in the R ticks from its release on, at most m in one tick, and W core-ticks in all
pub record Fits (m W R : ℕ) (j : Job) : Type 0 where
  pub inside : AllByRecursion (λ t. (j.released ≤ t) × (t < j.released + R)) j.spent
  pub narrow : (t : ℕ) → times t j.spent ≤ m
  pub short : length j.spent ≤ W

-- the jobs, the newest first, were released at least T apart, and the newest at least T before b
abbrev pub ApartBefore : ℕ → ℕ → List Job → Type 0
ApartBefore T b [] = Unit {0}
ApartBefore T b (j ∷ js) = (j.released + T ≤ b) × ApartBefore T j.released js

abbrev pub Apart : ℕ → List Job → Type 0
Apart T [] = Unit {0}
Apart T (j ∷ js) = ApartBefore T j.released js

-- the tick t is one of the n ticks from a on
abbrev pub in_window : ℕ → ℕ → ℕ → Bool
in_window a n t = nat_le a t && nat_lt t (a + n)

-- what the job used in the window
abbrev pub used : ℕ → ℕ → Job → ℕ
used a n j = count_if (in_window a n) j.spent

-- The jobs of a task with period T and work W, each within R ticks, use no more in a window of n ticks than `jobs_in` of them whole. One more
-- job may reach into the window: then the oldest, which is carried in, and the newest, which is cut off, use no more than W together.
abbrev pub WindowBounded : Type 0
WindowBounded =
    (m T R W a n : ℕ) (jobs : List Job) → 1 ≤ m → 1 ≤ T → W ≤ m * T → W ≤ m * R → 1 ≤ n → Apart T jobs → AllByRecursion (Fits m W R) jobs
    → sum_of (used a n) jobs ≤ W * jobs_in m T W (n + R)

-- what the job used in the window, if its release passes the test
abbrev pub used_ahead : (ℕ → Bool) → ℕ → ℕ → Job → ℕ
used_ahead ahead a n j = cond (ahead j.released) (used a n j) 0

-- the job passes the test, and its R ticks reach past a
abbrev pub reaches : (ℕ → Bool) → ℕ → ℕ → Job → Bool
reaches ahead a R j = nat_lt a (j.released + R) && ahead j.released

abbrev pub AheadBounded : Type 0
AheadBounded =
    (m R W a n c : ℕ) (ahead : ℕ → Bool) (jobs : List Job) → AllByRecursion (Fits m W R) jobs → count_if (reaches ahead a R) jobs ≤ c
    → sum_of (used_ahead ahead a n) jobs ≤ W * c
