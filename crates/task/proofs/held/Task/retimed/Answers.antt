use Rattle.std.proofs.Common.{length, ap, arith}
use Rattle.std.proofs.lemmas.Map.Keys.{le_from_is_le}
use Rattle.task.specs.Retimed.{CanRetime}
use Rattle.task.proofs.Recovered.{lawful_task}
use Rattle.task.proofs.Retiming.{retimed_task}
use Rattle.task.proofs.held.Task.retimed.Goals as goal

pub invariant_of-result : goal.invariant_of-result
invariant_of-result c =
    let table = c.args.self.table in
    let inside = c.if-not-contains.ensures.cases in
    let can : CanRetime table c.args.node c.args.time = record {
      is_node = omega (arith, ap length c.as_slice.ensures, c.if-node-as_slice.false);
      some_time = omega (arith, le_from_is_le _ c.args.time inside.0, c.new.ensures.start);
      short_time = omega (arith, le_from_is_le c.args.time _ inside.1, c.new.ensures.end);
    } in
    record { lawful = ∣ retimed_task table c.args.node c.args.time can (lawful_task table c.args.self.lawful) ∣₁ }
