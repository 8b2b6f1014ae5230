use Rattle.std.proofs.Common.{◌≡◌, ℕ, ◌<◌, ◌≤◌, length, get_or, None}
use Rattle.controller.specs.Effects.{one_more}
use Rattle.controller.proofs.ticks.wait_a_tick.Given as goal

-- the slots so far have waited one tick more, the others are as they were
abbrev pub invariant-loop-slot : goal.invariant-loop-slot
invariant-loop-slot l =
    (length l.waited ≡ length l.initial.waited)
    × ((k : ℕ) → k < l.slot → get_or l.waited k None ≡ one_more (get_or l.initial.waited k None))
    × ((k : ℕ) → l.slot ≤ k → get_or l.waited k None ≡ get_or l.initial.waited k None)
