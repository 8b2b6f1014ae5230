use Rattle.sets.proofs.Marked.{none_in_rows}
use Rattle.sets.proofs.arc_set.ArcSet.new.Goals as goal

pub returns : goal.returns
returns c = none_in_rows 64
