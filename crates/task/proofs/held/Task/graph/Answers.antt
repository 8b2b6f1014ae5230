use Rattle.task.proofs.Recovered.{lawful_task}
use Rattle.task.proofs.held.Task.graph.Goals as goal

pub graph_of-requires : goal.graph_of-requires
graph_of-requires c = (lawful_task c.args.self.now.table c.args.self.now.lawful).in_range

pub returns-clause-lawful : goal.returns-clause-lawful
returns-clause-lawful c = lawful_task c.args.self.now.table c.args.self.now.lawful
