use Rattle.std.proofs.Common.{◌≡◌, ◌+◌, ◌-◌, ◌*◌}
use Rattle.bounds.specs.Steps.{Sound, weight, count}
use Rattle.bounds.proofs.rise.least_bounds.Given as goal

abbrev pub invariant-loop-k : goal.invariant-loop-k
invariant-loop-k g l = record {
  plan : l.rise.plan ≡ l.plan;
  sound : Sound (g.O.Order.means l.order).most l.plan l.rise.bounds l.rise.caps l.pending;
}

abbrev pub decreases-loop-k : goal.decreases-loop-k
decreases-loop-k g l = (16000000 - weight l.rise.bounds) * 17 + count l.pending
