use Rattle.std.proofs.Common.{rules}
use Rattle.sets.proofs.Says.{says_like}
use Rattle.sets.proofs.Selected.{selected}
use Rattle.task.proofs.graph.Graph.closings_of.Goals as goal

pub returns : goal.returns
returns c =
    selected c.select.ensures (λ k b l a. says_like b (λ e. record { is_node = l; closes = e }) (λ p. p.closes) (search rules))
    (λ k p. p.is_node)
