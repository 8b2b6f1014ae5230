use Rattle.std.proofs.Common.{◌+◌, sym, subst}
use Rattle.sets.specs.declared.bit_set.BitSet.{BitSet}
use Rattle.sets.specs.Sets.{Marks}
use Rattle.dispatch.specs.Search.{Struck}
use Rattle.dispatch.proofs.Readies.{struck_none, struck_idle, struck_out}
use Rattle.dispatch.proofs.ready.strike.Goals as goal
use Rattle.dispatch.proofs.ready.strike.Goals.{then-has+then-has-2, else-has, else-has-via-then-has+else-has-2, else-has-via-else-has}

pub loop-arc-init : goal.loop-arc-init
loop-arc-init c = struck_none c.args.arcs.now c.args.under c.args.may

pub loop-arc-preserved : goal.loop-arc-preserved
loop-arc-preserved c =
    let arcs = c.args.arcs.now in
    let under = c.args.under in
    let may = c.args.may in
    let k = c.loop-arc.arc-index in
    let old = c.loop-arc.left in
    elim c.if-has.branch [
      | then-has+then-has-2 w ↦
          subst (λ (x : BitSet). Marks (Struck arcs under may (k + 1)) x) (sym w.left-is)
          (struck_out arcs under may k old w.without-left.result c.loop-arc.invariant w.if-has.ensures w.without-left.ensures)
      | else-has w ↦
          subst (λ (x : BitSet). Marks (Struck arcs under may (k + 1)) x) (sym w.left-is)
          (struck_idle arcs under may k old c.loop-arc.invariant
          (elim w.else-has.branch [
            | else-has-via-then-has+else-has-2 y ↦ λ b l. y.if-has-2.ensures l
            | else-has-via-else-has y ↦ λ b l. y.if-has.ensures b
          ]))
    ]
