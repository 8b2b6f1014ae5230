use Rattle.task.proofs.Recovered.{lawful_task}
use Rattle.task.proofs.held.Task.nodes.Goals as goal

pub returns : goal.returns
returns c = record { value = c.as_slice.ensures; lawful = lawful_task c.args.self.now.table c.args.self.now.lawful }
