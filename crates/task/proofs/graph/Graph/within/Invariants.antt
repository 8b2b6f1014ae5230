use Rattle.std.proofs.Common.{ℕ}
use Rattle.sets.specs.Sets.{Has, Marks}
use Rattle.task.specs.Deciding.{Within}
use Rattle.task.proofs.graph.Graph.within.Given as goal

-- what was found is what is within, of the numbers that are not left to go over
abbrev pub invariant-loop-v : goal.invariant-loop-v
invariant-loop-v l =
    goal.iterator-loop-v.can_next l.v-iterator × goal.iterator-loop-v.is_finite l.v-iterator
    × ((n : ℕ) → Has l.v-iterator.left n → Has l.fn.set n) × Marks (λ n. Within l.self.nodes.now l.region l.fn.set n × (Has l.v-iterator.left n → ⊥)) l.found
