use Rattle.paths.proofs.Chosen.{one_choice}
use Rattle.paths.proofs.walk.choice_is_one.Goals as goal

pub returns : goal.returns
returns g c ns arcs goals v x y a b = one_choice (g.met.P.PathAlgebra.lawful c.args.algebra.now) _ _ x y a b
