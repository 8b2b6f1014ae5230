use Rattle.workload.proofs.Paths.{longest_path_is_length_lem}
use Rattle.workload.proofs.theorems.longest_path_is_length.Goals as goal

pub returns : goal.returns
returns c = longest_path_is_length_lem
