use Rattle.std.proofs.Common.{◌≡◌, ℕ, ◌+◌, length, sym, subst, arith}
use Rattle.sets.specs.declared.bit_set.BitSet.{BitSet}
use Rattle.sets.proofs.Marked.{MarksBelow, mark_none, mark_skip, mark_more}
use Rattle.workload.specs.Settling.{Takes}
use Rattle.workload.specs.Worst.{pick_of}
use Rattle.workload.proofs.Marking.{leads_taken, taken_leads, all_marked}
use Rattle.workload.proofs.taken.taken.Goals as goal
use Rattle.workload.proofs.taken.taken.Goals.{then-leads_into, else-leads_into}

pub leads_into-requires : goal.leads_into-requires
leads_into-requires c = λ h b e. omega (arith, c.requires.homes_smaller c.loop-v.v h c.loop-v-test.true (b, e), c.requires.few_nodes)

pub loop-v-init : goal.loop-v-init
loop-v-init c = mark_none (Takes c.args.nodes.now (pick_of c.args.picks.now))

pub loop-v-preserved : goal.loop-v-preserved
loop-v-preserved c =
    let ns = c.args.nodes.now in
    let pick = pick_of c.args.picks.now in
    let v = c.loop-v.v in
    let old = c.loop-v.taken in
    let marked = c.loop-v.invariant in
    elim c.if-leads_into.branch [
      | then-leads_into w ↦
          subst (λ (s : BitSet). MarksBelow (Takes ns pick) (v + 1) s) (sym w.taken-is)
          (mark_more (Takes ns pick) v old w.with-taken.result marked w.with-taken.ensures
          (leads_taken ns c.requires.homes_smaller pick v c.loop-v-test.true old marked w.if-leads_into.ensures))
      | else-leads_into w ↦
          subst (λ (s : BitSet). MarksBelow (Takes ns pick) (v + 1) s) (sym w.taken-is)
          (mark_skip (Takes ns pick) v old marked
          (λ t. w.if-leads_into.ensures (taken_leads ns c.requires.homes_smaller pick v c.loop-v-test.true old marked t)))
    ]

pub returns : goal.returns
returns c =
    let ns = c.args.nodes.now in
    let pick = pick_of c.args.picks.now in
    let end : c.loop-v.v ≡ length ns = omega arith in
    all_marked ns pick c.loop-v.taken (subst (λ (k : ℕ). MarksBelow (Takes ns pick) k c.loop-v.taken) end c.loop-v.invariant)
