use Rattle.std.proofs.Common.{◌≡◌, ◌+◌, ◌-◌, ◌^◌, min}
use Rattle.dispatch.specs.Moves.{Runs}
use Rattle.dispatch.proofs.board.OpenJob.moved.Given as goal

abbrev pub invariant-loop-core : goal.invariant-loop-core
invariant-loop-core l = record {
  runs : Runs l.spots l.outcomes l.core l.slot l.self.job.now.states l.later.states l.later.placed;
  age : l.later.age ≡ min (l.self.job.now.age + 1) (2 ^ 32 - 1);
}
