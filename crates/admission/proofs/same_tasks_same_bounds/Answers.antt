use Rattle.admission.proofs.Same.{same_tasks_same_bounds_lem}
use Rattle.admission.proofs.same_tasks_same_bounds.Goals as goal

pub returns : goal.returns
returns c = same_tasks_same_bounds_lem
