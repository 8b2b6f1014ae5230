use Rattle.sets.proofs.Says.{says_like}
use Rattle.task.specs.Gates.{Gated}
use Rattle.task.proofs.graph.Graph.is_gated.Goals as goal

pub returns-in-Some : goal.returns-in-Some
returns-in-Some c =
    says_like {Q = Gated c.args.self.now.nodes.now c.args.gates c.args.v} c.agree_at.result (λ both. record { entry = λ h i. both.0; exit = λ h i. both.1 })
    (λ gated. (gated.entry _ c.in-Some.ensures, gated.exit _ c.in-Some.ensures)) c.agree_at.ensures

pub returns-in-None : goal.returns-in-None
returns-in-None c = record { entry = λ h i. absurd (c.in-None.ensures h i); exit = λ h i. absurd (c.in-None.ensures h i) }
