use Rattle.std.proofs.Common.{◌+◌, ◌≤◌, length, sym, subst, arith}
use Rattle.sets.specs.declared.bit_set.BitSet.{BitSet}
use Rattle.sets.proofs.Marked.{MarksBelow, mark_none, mark_skip, mark_more, mark_all}
use Rattle.workload.proofs.Tasks.{task_ranged}
use Rattle.dispatch.specs.Search.{UnderWay, MayStart}
use Rattle.dispatch.specs.Tables.{task_nodes}
use Rattle.dispatch.proofs.board.OpenJob.pending.Goals as goal
use Rattle.dispatch.proofs.board.OpenJob.pending.Goals.{then-is_under_way+then-may_start, then-is_under_way+else-may_start, else-is_under_way}

pub loop-v-init : goal.loop-v-init
loop-v-init c =
    let ns = task_nodes c.args.self.now.task.now in
    let job = c.args.self.now.job.now.states in
    record { under = mark_none (UnderWay ns job); may = mark_none (MayStart ns job) }

pub loop-v-preserved : goal.loop-v-preserved
loop-v-preserved c =
    let ns = task_nodes c.args.self.now.task.now in
    let job = c.args.self.now.job.now.states in
    let U = UnderWay ns job in
    let M = MayStart ns job in
    let v = c.loop-v.v in
    let under = c.loop-v.under_way in
    let may = c.loop-v.may_start in
    let was = c.loop-v.invariant in
    elim c.if-is_under_way.branch [
      | then-is_under_way+then-may_start w ↦ record {
        under = subst (λ (s : BitSet). MarksBelow U (v + 1) s) (sym w.under_way-is)
            (mark_more U v under w.with-under_way.result was.under w.with-under_way.ensures w.if-is_under_way.ensures);
        may = subst (λ (s : BitSet). MarksBelow M (v + 1) s) (sym w.may_start-is)
            (mark_more M v may w.with-may_start.result was.may w.with-may_start.ensures w.if-may_start.ensures);
      }
      | then-is_under_way+else-may_start w ↦ record {
        under = subst (λ (s : BitSet). MarksBelow U (v + 1) s) (sym w.under_way-is)
            (mark_more U v under w.with-under_way.result was.under w.with-under_way.ensures w.if-is_under_way.ensures);
        may = subst (λ (s : BitSet). MarksBelow M (v + 1) s) (sym w.may_start-is) (mark_skip M v may was.may w.if-may_start.ensures);
      }
      | else-is_under_way w ↦ record {
        under = subst (λ (s : BitSet). MarksBelow U (v + 1) s) (sym w.under_way-is) (mark_skip U v under was.under w.if-is_under_way.ensures);
        may = subst (λ (s : BitSet). MarksBelow M (v + 1) s) (sym w.may_start-is)
            (mark_skip M v may was.may (λ m. w.if-is_under_way.ensures m.under_way));
      }
    ]

pub returns : goal.returns
returns c =
    let ns = task_nodes c.args.self.now.task.now in
    let job = c.args.self.now.job.now.states in
    let end : length ns ≤ c.loop-v.v = rw c.nodes-v-end.ensures.value at c.loop-v-test.false in
    record {
      under = mark_all (UnderWay ns job) c.loop-v.v c.loop-v.under_way (λ v u. let l = u.is_node in omega arith) c.loop-v.invariant.under;
      ranged = task_ranged c.args.self.now.task.now.table c.nodes-v-end.ensures.lawful;
      may = mark_all (MayStart ns job) c.loop-v.v c.loop-v.may_start (λ v m. let l = m.under_way.is_node in omega arith) c.loop-v.invariant.may;
    }
