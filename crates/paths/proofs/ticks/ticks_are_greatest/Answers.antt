use Rattle.paths.proofs.Greatest.{greatest}
use Rattle.paths.proofs.ticks.ticks_are_greatest.Goals as goal

pub returns : goal.returns
returns c ns arcs goals v x chosen = greatest _ _ x chosen
