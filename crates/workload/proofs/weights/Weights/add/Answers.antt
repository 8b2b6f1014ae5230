use Rattle.std.proofs.Common.{◌+◌, [], get_or, set, sym, subst, arith}
use Rattle.table.specs.declared.records.Region.{Region}
use Rattle.workload.specs.Weights.{weighed, Added}
use Rattle.workload.proofs.Rows.{added_there}
use Rattle.workload.proofs.weights.Weights.add.Goals as goal

pub returns-in-Branch : goal.returns-in-Branch
returns-in-Branch c =
    let rows = c.args.self.now.rows in
    let h = c.in-Branch.home in
    let b = c.in-Branch.branch in
    let is = c.in-Branch.is in
    let room = c.requires in
    let gain = c.args.gain in
    rw (c.from-in-Branch.ensures, c.from.ensures)
    (subst (λ (r : Region). Added rows r gain (set rows h (set (get_or rows h []) b (weighed rows h b + gain)))) (sym is)
    (added_there rows h b gain (omega arith) room.wide (room.home h b is) (room.branch h b is)))
