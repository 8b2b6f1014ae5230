use Rattle.sets.proofs.Marked.{MarksBelow}
use Rattle.dispatch.specs.Search.{UnderWay, MayStart}
use Rattle.dispatch.specs.Tables.{task_nodes}
use Rattle.dispatch.proofs.board.OpenJob.pending.Given as goal

abbrev pub invariant-loop-v : goal.invariant-loop-v
invariant-loop-v l = record {
  under : MarksBelow (UnderWay (task_nodes l.self.task.now) l.self.job.now.states) l.v l.under_way;
  may : MarksBelow (MayStart (task_nodes l.self.task.now) l.self.job.now.states) l.v l.may_start;
}
