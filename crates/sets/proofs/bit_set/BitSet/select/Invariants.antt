use Rattle.sets.specs.Sets.{Selects}
use Rattle.sets.proofs.bit_set.BitSet.select.Given as goal

abbrev pub invariant-loop-k : goal.invariant-loop-k
invariant-loop-k g l = Selects (goal.F-post g l.test) l.k l.set
