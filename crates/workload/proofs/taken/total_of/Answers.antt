use Rattle.std.proofs.Common.{arith}
use Rattle.workload.proofs.Marking.{counted, passed_over}
use Rattle.workload.proofs.taken.total_of.Goals as goal
use Rattle.workload.proofs.taken.total_of.Goals.{then-has, else-has}

pub loop-number-preserved : goal.loop-number-preserved
loop-number-preserved c =
    let ns = c.args.nodes.now in
    let s = c.args.taken in
    let v = c.loop-number.number in
    elim c.if-has.branch [
      | then-has w ↦ (
        omega arith,
        λ pick m.
            let here = counted ns pick s m v c.loop-number-test.true w.if-has.ensures in
            let before = c.loop-number.invariant.1 pick m in
            omega arith,
      )
      | else-has w ↦ (
        omega arith,
        λ pick m.
            let here = passed_over ns pick s m v c.loop-number-test.true w.if-has.ensures in
            let before = c.loop-number.invariant.1 pick m in
            omega arith,
      )
    ]
