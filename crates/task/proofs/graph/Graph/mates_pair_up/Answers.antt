use Rattle.std.proofs.Common.{rules}
use Rattle.task.specs.Shape.{PairsUp}
use Rattle.task.proofs.Tested.{tried_by_test}
use Rattle.task.proofs.graph.Graph.mates_pair_up.Goals as goal

pub returns : goal.returns
returns c = tried_by_test (PairsUp c.args.self.now.nodes.now) _ _ _ _ c.find.ensures.ran (λ x b q k. search rules)
