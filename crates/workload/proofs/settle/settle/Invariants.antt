use Rattle.workload.proofs.Ahead.{Ahead}
use Rattle.workload.proofs.settle.settle.Given as goal

abbrev pub invariant-loop-v : goal.invariant-loop-v
invariant-loop-v l = Ahead l.nodes l.v-iterator.iter.count l.v-iterator.iter.iter.rest.now l.weights.rows l.picks
