use Rattle.std.proofs.Common.{◌≡◌, ℕ, ◌*◌, ◌≤◌}
use Rattle.sets.specs.Sets.{Marks}
use Rattle.workload.specs.Measures.{sum_below, taken_time}
use Rattle.workload.specs.Worst.{TakenNode}
use Rattle.workload.proofs.taken.total_of.Given as goal

abbrev pub invariant-loop-number : goal.invariant-loop-number
invariant-loop-number l =
    (l.total ≤ 4294967295 * l.number)
    × ((pick : ℕ → ℕ) → Marks (TakenNode l.nodes pick) l.taken → l.total ≡ sum_below l.number (taken_time l.nodes pick))
