use Rattle.std.proofs.Common.{ℕ, rules}
use Rattle.task.specs.Deciding.{OneOfEach}
use Rattle.task.specs.Graph.{region}
use Rattle.task.proofs.Ended.{ends_of_each, each_of_ends}
use Rattle.task.proofs.Tested.{tried_like, tried_by_test}
use Rattle.task.proofs.graph.Graph.one_first_one_last.Goals as goal

pub returns : goal.returns
returns c =
    let ns = c.args.self.now.nodes.now in
    let arcs = c.args.self.now.arcs.now in
    let firsts = c.args.firsts in
    let lasts = c.args.lasts in
    let first = c.requires.firsts in
    let last = c.requires.lasts in
    tried_like c.find.result (λ v l. ends_of_each ns arcs firsts lasts first last (region ns v))
    (λ v l. each_of_ends ns arcs firsts lasts first last (region ns v))
    (tried_by_test (λ (v : ℕ). OneOfEach ns firsts lasts (region ns v)) _ _ _ _ c.find.ensures.ran (λ x b q k. search rules))
