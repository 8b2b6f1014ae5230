use Rattle.std.proofs.Common.{rules}
use Rattle.plans.proofs.Keywords.{only_node}
use Rattle.plans.proofs.Saying.{unheard}
use Rattle.plans.proofs.statement.node_statement.Goals as goal

pub returns-in_err-node : goal.returns-in_err-node
returns-in_err-node c = unheard _ _ _ (search rules) (only_node _ c.in_err-node.ensures)
