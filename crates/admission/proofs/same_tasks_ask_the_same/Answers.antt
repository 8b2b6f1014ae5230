use Rattle.admission.proofs.Same.{same_tasks_ask_the_same_lem}
use Rattle.admission.proofs.same_tasks_ask_the_same.Goals as goal

pub returns : goal.returns
returns c = same_tasks_ask_the_same_lem
