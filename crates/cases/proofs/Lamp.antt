-- The lamp's greatest length and greatest total.
use Rattle.std.proofs.Common.{[], lit≤}
use Rattle.workload.proofs.Single.{single_length, single_total}
use Rattle.cases.specs.Cases.{lamp_task, Measures}

pub lamp_measures : Measures lamp_task [] 6 6
lamp_measures = (single_length 6 (lit≤ tt) (lit≤ tt), single_total 6)
