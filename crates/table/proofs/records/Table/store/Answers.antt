use Rattle.std.proofs.Common.{sym, refl}
use Rattle.table.specs.Format.{task, node, arc}
use Rattle.table.proofs.records.Table.store.Goals as goal

pub returns-in_ok-self-in-OfTask : goal.returns-in_ok-self-in-OfTask
returns-in_ok-self-in-OfTask c =
    let h = c.in_ok-self-in-OfTask.ensures in
    record { it = task c.in_ok-self-in-OfTask.field-0; kind_is = sym c.in-OfTask.is; in_range = h.1; bytes_are = h.0; after_is = refl }

pub returns-in_ok-node_in-in-OfNode : goal.returns-in_ok-node_in-in-OfNode
returns-in_ok-node_in-in-OfNode c =
    let h = c.in_ok-node_in-in-OfNode.ensures in
    let p = c.push.ensures in
    record {
      it = node c.in_ok-node_in-in-OfNode.field-0;
      kind_is = sym c.in-OfNode.is;
      in_range = h.1;
      bytes_are = h.0;
      after_is = cc;
    }

pub returns-in_ok-arc_in-in-OfArc : goal.returns-in_ok-arc_in-in-OfArc
returns-in_ok-arc_in-in-OfArc c =
    let h = c.in_ok-arc_in-in-OfArc.ensures in
    let p = c.push-in-OfArc.ensures in
    record {
      it = arc c.in_ok-arc_in-in-OfArc.field-0;
      kind_is = sym c.in-OfArc.is;
      in_range = h.1;
      bytes_are = h.0;
      after_is = cc;
    }
