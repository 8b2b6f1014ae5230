use Rattle.sets.specs.Sets.{HasArc}
use Rattle.paths.proofs.Known.{Settled}
use Rattle.paths.proofs.walk.walk.Given as goal

-- search.1.1.0 is the search's reference to its arcs
abbrev pub invariant-loop-n : goal.invariant-loop-n
invariant-loop-n g l =
    Settled (g.P.PathAlgebra.choice l.algebra) (g.P.PathAlgebra.extension l.algebra) (g.P.PathAlgebra.weight l.algebra) l.nodes
    (HasArc l.search.1.1.0.now) l.fn.goals l.initial.values l.n l.found l.values
