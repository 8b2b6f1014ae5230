use Rattle.std.proofs.Common.{arith, below_more}
use Rattle.task.specs.Shape.{LawfulArc}
use Rattle.task.proofs.Lawful.{to_small, from_small, sees_none, sees_more, fresh, not_fresh}
use Rattle.task.proofs.graph.Graph.arcs_are_lawful.Goals as goal
use Rattle.task.proofs.graph.Graph.arcs_are_lawful.Goals.{then-has-via-then-has, then-has-via-else-has+then-not-is_of_a_kind}

pub has-requires : goal.has-requires
has-requires c = from_small c.args.self.now.nodes.now c.args.self.now.arcs.now c.args.self.now.ranged c.loop-k.k c.loop-k-test.true

pub insert-requires : goal.insert-requires
insert-requires c = (
  from_small c.args.self.now.nodes.now c.args.self.now.arcs.now c.args.self.now.ranged c.loop-k.k c.loop-k-test.true,
  to_small c.args.self.now.nodes.now c.args.self.now.arcs.now c.args.self.now.ranged c.loop-k.k c.loop-k-test.true,
)

pub loop-k-init : goal.loop-k-init
loop-k-init c = (sees_none c.args.self.now.arcs.now c.new-seen.result c.new-seen.ensures, λ j l. absurd (omega arith))

pub loop-k-preserved : goal.loop-k-preserved
loop-k-preserved c =
    let ns = c.args.self.now.nodes.now in
    let arcs = c.args.self.now.arcs.now in
    let k = c.loop-k.k in
    let seen = c.loop-k.seen in
    let sees = c.loop-k.invariant.0 in (
      sees_more arcs k seen c.insert.new.self sees c.insert.ensures,
      below_more (LawfulArc ns arcs) k c.loop-k.invariant.1 (fresh arcs ns k seen sees c.if-has.ensures c.if-not-is_of_a_kind.ensures),
    )

pub returns-then-has : goal.returns-then-has
returns-then-has c =
    record {
      within = c.loop-k-test.true;
      fails =
          elim c.then-has.branch [
            | then-has-via-then-has w ↦
                not_fresh c.args.self.now.arcs.now c.args.self.now.nodes.now c.loop-k.k c.loop-k.seen c.loop-k.invariant.0 w.if-has.ensures
            | then-has-via-else-has+then-not-is_of_a_kind w ↦ λ lawful. w.if-not-is_of_a_kind.ensures lawful.kind
          ];
      none_before = c.loop-k.invariant.1;
    }

pub returns : goal.returns
returns c = λ k l. c.loop-k.invariant.1 k (omega arith)
