use Rattle.sets.specs.Sets.{HasArc}
use Rattle.paths.specs.Paths.{path_value}
use Rattle.paths.proofs.Sought.{Sought}
use Rattle.paths.proofs.walk.PathSearch.best_from.Given as goal

abbrev pub invariant-loop-v : goal.invariant-loop-v
invariant-loop-v g l =
    (goal.iterator-loop-v g).can_next l.v-iterator
    × (goal.iterator-loop-v g).is_finite l.v-iterator
    × Sought (g.P.PathAlgebra.choice l.self.algebra.now) (path_value (g.P.PathAlgebra.extension l.self.algebra.now) (g.P.PathAlgebra.weight l.self.algebra.now) l.self.nodes.now)
    (HasArc l.self.after.now) l.self.nodes.now l.self.goals l.n l.fn.found l.v-iterator.left l.best
