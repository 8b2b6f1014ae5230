use Rattle.std.proofs.Common.{◌≡◌, ℕ, ◌<◌, length, get_or, None}
use Rattle.dispatch.specs.Tables.{task_at, job_at}
use Rattle.controller.specs.Steps.{entrant}
use Rattle.controller.proofs.precedence.entrants_of.Given as goal

abbrev pub invariant-loop-slot : goal.invariant-loop-slot
invariant-loop-slot l =
    (length l.found ≡ 16) × ((s : ℕ) → s < l.slot → get_or l.found s None ≡ entrant s (task_at l.board.tasks s) (job_at l.board.jobs s))
