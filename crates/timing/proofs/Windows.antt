-- The workload of one task in a window.
use Rattle.std.proofs.Common.{◌≡◌, ℕ, zero, suc, ◌+◌, ◌-◌, ◌*◌, ◌<◌, ◌≤◌, Bool, true, false, cond, ◌&&◌, ltb, ◌⊎◌, List, [], ◌∷◌, refl, ap, inl, inr, mul-le-mul_left, arith}
use Rattle.std.proofs.lemmas.Bool.Decides.{nat_tests}
use Rattle.std.proofs.lemmas.Bool.{cases_lt, ltb-false}
use Rattle.std.specs.List.{AllByRecursion}
use Rattle.bounds.specs.Equation.{jobs_in}
use Rattle.bounds.proofs.Rounding.{up_enough}
use Rattle.timing.specs.Counts.{bit, count_if, sum_of}
use Rattle.timing.specs.Window.{Job, Fits, ApartBefore, Apart, in_window, used, WindowBounded, used_ahead, reaches, AheadBounded}
use Rattle.timing.proofs.Counting.{count_if_mono, count_if_length, count_narrow, sum_of_mono}

-- what is in the window and below the end of the job lies in the window from a to that end
from_start : (a n e r t : ℕ) → (r ≤ t) × (t < e) → bit (in_window a n t) ≤ bit (in_window a (e - a) t)
from_start a n e r t h = grind (arith, nat_tests)

-- what is in the window and not before the release lies in the window from the release to the end of the window
from_release : (a n e r t : ℕ) → (r ≤ t) × (t < e) → bit (in_window a n t) ≤ bit (in_window r ((a + n) - r) t)
from_release a n e r t h = grind (arith, nat_tests)

module _ (m R W a n : ℕ) (j : Job) (fits : Fits m W R j) where
  pub used_short : used a n j ≤ W
  used_short = omega (arith, count_if_length (in_window a n) j.spent)

  pub used_early : used a n j ≤ m * ((j.released + R) - a)
  used_early =
      omega (
        arith,
        count_if_mono (in_window a n) (in_window a ((j.released + R) - a)) (λ t. (j.released ≤ t) × (t < j.released + R)) (λ t h. from_start a n (j.released + R) j.released t h) j.spent fits.inside,
        count_narrow m a ((j.released + R) - a) j.spent fits.narrow,
      )

  pub used_late : used a n j ≤ m * ((a + n) - j.released)
  used_late =
      omega (
        arith,
        count_if_mono (in_window a n) (in_window j.released ((a + n) - j.released)) (λ t. (j.released ≤ t) × (t < j.released + R)) (λ t h. from_release a n (j.released + R) j.released t h) j.spent fits.inside,
        count_narrow m j.released ((a + n) - j.released) j.spent fits.narrow,
      )

-- a bound times m; std's lemma with its numbers written out, which a search for h needs
times_le : (m x y : ℕ) → x ≤ y → m * x ≤ m * y
times_le m x y h = mul-le-mul_left m h

module _ (m T R W a n : ℕ) (period : W ≤ m * T) where
  -- One more job, released at r, in front of jobs that can use `rest`: the first M of them W each, and the others what is left of the ticks.
  -- x and y stand for the ticks from a to the end of the newest job, before and after.
  one_more : (M x y rest u : ℕ) → y + T ≤ x ⊎ y ≡ 0 → u ≤ W → rest ≤ W * M + (m * y - m * T * M) → u + rest ≤ W * suc M + (m * x - m * T * suc M)
  one_more M x y rest u (inl h) k l = omega (arith, times_le m (y + T) x h)
  one_more M x y rest u (inr e) k l = omega (arith, times_le m y 0 (omega arith))

  one_more_none : (x y rest u : ℕ) → y + T ≤ x ⊎ y ≡ 0 → u ≤ W → u ≤ m * x → rest ≤ m * y → u + rest ≤ m * x
  one_more_none x y rest u (inl h) k c l = omega (arith, times_le m (y + T) x h)
  one_more_none x y rest u (inr e) k c l = omega (arith, times_le m y 0 (omega arith))

  -- The ticks from a to the last end of a job released at least T before b.
  room : ℕ → ℕ
  room b = (b + R) - (a + T)

  room_shrinks : (b r : ℕ) → r + T ≤ b → (room r + T ≤ room b) ⊎ (room r ≡ 0)
  unfolding room
  room_shrinks b r h = elim (cases_lt (a + T) (r + R)) [ inl l ↦ inl (omega arith) | inr l ↦ inr (omega arith) ]

  -- No job runs past its end, so for each M the jobs released at least T before b use at most W for each of M jobs,
  -- and what is left of the ticks before the last end.
  older_bounded : (M b : ℕ) (js : List Job) → ApartBefore T b js → AllByRecursion (Fits m W R) js → sum_of (used a n) js ≤ W * M + (m * room b - m * T * M)
  unfolding room
  older_bounded M b [] sp fit = omega arith
  older_bounded zero b (j ∷ js) sp fit =
      let rest = older_bounded zero j.released js sp.1 fit.1 in
      let early = used_early m R W a n j fit.0 in
      let bound : sum_of (used a n) (j ∷ js) ≤ m * room b = one_more_none (room b) (room j.released) (sum_of (used a n) js) (used a n j) (room_shrinks b j.released sp.0) (used_short m R W a n j fit.0) (omega (arith, times_le m ((j.released + R) - a) (room b) (omega arith))) (omega arith) in
      omega arith
  older_bounded (suc M) b (j ∷ js) sp fit =
      one_more M (room b) (room j.released) (sum_of (used a n) js) (used a n j) (room_shrinks b j.released sp.0) (used_short m R W a n j fit.0) (older_bounded M j.released js sp.1 fit.1)

  -- The newest job that starts before the window's end, at r, uses u, and the others use `rest`.
  -- d stands for the room of the others, and e for the ticks from r to the window's end.
  newest_with_room : (M r u rest d e : ℕ) → m * (n + R) ≤ W + m * T * suc M → d + (a + T) ≡ r + R → e + r ≡ a + n → u ≤ W → u ≤ m * e → rest ≤ W * M + (m * d - m * T * M) → u + rest ≤ W * suc M
  newest_with_room M r u rest d e enough p q short late older =
      let p' : m * (d + (a + T)) ≡ m * (r + R) = ap (λ x. m * x) p in
      let q' : m * (e + r) ≡ m * (a + n) = ap (λ x. m * x) q in
      omega arith

  newest_bounded : (M r u rest : ℕ) → r < a + n → m * (n + R) ≤ W + m * T * suc M → u ≤ W → u ≤ m * ((a + n) - r) → rest ≤ W * M + (m * room r - m * T * M) → u + rest ≤ W * suc M
  unfolding room
  newest_bounded M r u rest starts enough short late older =
      elim (cases_lt (a + T) (r + R)) [
        | inl l ↦ newest_with_room M r u rest (room r) ((a + n) - r) enough (omega arith) (omega arith) short late older
        | inr l ↦ omega (arith, times_le m (room r) 0 (omega arith))
      ]

  spread_tail : (b : ℕ) (js : List Job) → ApartBefore T b js → Apart T js
  spread_tail b [] sp = tt
  spread_tail b (j ∷ js) sp = sp.1

  pub jobs_bounded : (M : ℕ) (js : List Job) → m * (n + R) ≤ W + m * T * suc M → Apart T js → AllByRecursion (Fits m W R) js → sum_of (used a n) js ≤ W * suc M
  jobs_bounded M [] enough sp fit = omega arith
  jobs_bounded M (j ∷ js) enough sp fit =
      let rest = jobs_bounded M js enough (spread_tail j.released js sp) fit.1 in
      elim (cases_lt j.released (a + n)) [
        | inl l ↦ newest_bounded M j.released (used a n j) (sum_of (used a n) js) l enough (used_short m R W a n j fit.0) (used_late m R W a n j fit.0) (older_bounded M j.released js sp fit.1)
        | inr l ↦ omega (arith, rest, used_late m R W a n j fit.0, times_le m ((a + n) - j.released) 0 (omega arith))
      ]

-- a product is at least 1 where its factors are
product_pos : (m T : ℕ) → 1 ≤ m → 1 ≤ T → 1 ≤ m * T
product_pos m T h k = omega (arith, times_le m 1 T k)

pub window_bounded : WindowBounded
window_bounded m T R W a n jobs cores period within life long sp fit =
    go (jobs_in m T W (n + R)) (up_enough (m * (n + R) - W) (m * T) (product_pos m T cores period))
  where
    go : (q : ℕ) → m * (n + R) - W ≤ m * T * q → sum_of (used a n) jobs ≤ W * q
    go zero k = absurd (omega (arith, times_le m 1 n long))
    go (suc M) k = jobs_bounded m T R W a n within M jobs (omega arith) sp fit

-- each job that passes and reaches the window counts once
one_ahead : (m R W a n : ℕ) (ahead : ℕ → Bool) (j : Job) → Fits m W R j → used_ahead ahead a n j ≤ W * bit (reaches ahead a R j)
one_ahead m R W a n ahead j fit =
    go (ahead j.released) (ltb a (j.released + R)) (λ e. omega (arith, used_early m R W a n j fit, times_le m ((j.released + R) - a) 0 (omega (arith, ltb-false a (j.released + R) e))))
  where
    go : (b l : Bool) → (l ≡ false → used a n j ≤ 0) → cond b (used a n j) 0 ≤ W * bit (l && b)
    go true true h = omega (arith, used_short m R W a n j fit)
    go true false h = omega (arith, h refl)
    go false true h = omega arith
    go false false h = omega arith

pub ahead_counted : (m R W a n : ℕ) (ahead : ℕ → Bool) (jobs : List Job) → AllByRecursion (Fits m W R) jobs → sum_of (used_ahead ahead a n) jobs ≤ W * count_if (reaches ahead a R) jobs
ahead_counted m R W a n ahead [] fit = omega arith
ahead_counted m R W a n ahead (j ∷ jobs) fit = omega (arith, one_ahead m R W a n ahead j fit.0, ahead_counted m R W a n ahead jobs fit.1)

pub ahead_bounded : AheadBounded
ahead_bounded m R W a n c ahead jobs fit h = omega (arith, ahead_counted m R W a n ahead jobs fit, times_le W (count_if (reaches ahead a R) jobs) c h)

ahead_le_one : (ahead : ℕ → Bool) (a n : ℕ) (j : Job) → used_ahead ahead a n j ≤ used a n j
ahead_le_one ahead a n j = go (ahead j.released)
  where
    go : (b : Bool) → cond b (used a n j) 0 ≤ used a n j
    go true = omega arith
    go false = omega arith

-- what the jobs ahead use is part of what all use
pub ahead_le_all : (ahead : ℕ → Bool) (a n : ℕ) (jobs : List Job) → sum_of (used_ahead ahead a n) jobs ≤ sum_of (used a n) jobs
ahead_le_all ahead a n jobs = sum_of_mono (used_ahead ahead a n) (used a n) (ahead_le_one ahead a n) jobs
