use Rattle.sets.proofs.Says.{says_like}
use Rattle.task.proofs.Regions.{home_opens_lem}
use Rattle.task.proofs.graph.Graph.home_opens.Goals as goal

pub returns-in-Some : goal.returns-in-Some
returns-in-Some c =
    let inside = c.in-Some.ensures in
    says_like c.is_opening.result (home_opens_lem c.args.self.now.nodes.now c.args.v c.in-Some.home inside) (λ all. all c.in-Some.home inside)
    c.is_opening.ensures

pub returns-in-None : goal.returns-in-None
returns-in-None c = λ h inside. absurd (c.in-None.ensures h inside)
