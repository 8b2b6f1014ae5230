use Rattle.std.proofs.Common.{◌+◌, sym, subst}
use Rattle.sets.specs.Sets.{Selects}
use Rattle.sets.specs.declared.bit_set.BitSet.{BitSet}
use Rattle.sets.proofs.Selected.{select_yes, select_no}
use Rattle.sets.proofs.bit_set.BitSet.select.Goals as goal
use Rattle.sets.proofs.bit_set.BitSet.select.Goals.{then-test, else-test}

pub loop-k-preserved : goal.loop-k-preserved
loop-k-preserved g c =
    let A = goal.F-post g c.args.test in
    let k = c.loop-k.k in
    elim c.if-test.branch [
      | then-test w ↦ subst (λ (s : BitSet). Selects A (k + 1) s) (sym w.set-is) (select_yes A k c.loop-k.set w.with-set.result c.loop-k.invariant w.with-set.ensures w.if-test.ensures)
      | else-test w ↦ subst (λ (s : BitSet). Selects A (k + 1) s) (sym w.set-is) (select_no A k c.loop-k.set c.loop-k.invariant w.if-test.ensures)
    ]
