use Rattle.std.proofs.Common.{sym, subst}
use Rattle.workload.specs.Nested.{Nested}
use Rattle.workload.proofs.Tasks.{task_nested}
use Rattle.workload.proofs.measures.worst_settling.Goals as goal

pub worst_of-requires : goal.worst_of-requires
worst_of-requires c = subst Nested (sym c.nodes.ensures.value) (task_nested c.args.task.now.table c.nodes.ensures.lawful)
