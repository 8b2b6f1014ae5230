use Rattle.std.proofs.Common.{refl}
use Rattle.plans.specs.Statements.{node, arc}
use Rattle.plans.proofs.Drafting.{cores_taken, order_taken}
use Rattle.plans.proofs.draft.Draft.take.Goals as goal

pub returns-in-Cores : goal.returns-in-Cores
returns-in-Cores c = rw c.in-Cores.is (λ ps k. (tt, cores_taken c.args.self.now _ ps c.args.line k c.in-Cores.cores refl refl refl))

pub returns-in-Order : goal.returns-in-Order
returns-in-Order c = rw c.in-Order.is (λ ps k. (tt, order_taken c.args.self.now _ ps c.args.line k c.in-Order.order refl refl refl))

pub returns-in-OfNode : goal.returns-in-OfNode
returns-in-OfNode c = rw c.in-OfNode.is (λ ps k. c.write.ensures ps (node c.in-OfNode.node) k c.node_bytes.ensures)

pub returns-in-OfArc : goal.returns-in-OfArc
returns-in-OfArc c = rw c.in-OfArc.is (λ ps k. c.write-in-OfArc.ensures ps (arc c.in-OfArc.arc) k c.arc_bytes.ensures)
