use Rattle.std.proofs.Common.{arith}
use Rattle.workload.proofs.Ahead.{all_ahead, none_ahead, gain_fits_ahead, room_ahead, less_ahead}
use Rattle.workload.proofs.settle.settle.Goals as goal

pub loop-v-init : goal.loop-v-init
loop-v-init c = all_ahead _ _ _ _ (cc) (cc) c.new-weights.ensures

pub overflow_add-gain : goal.overflow_add-gain
overflow_add-gain c =
    let step = c.in-Some.ensures.steps.1 in
    let fits = gain_fits_ahead _ c.requires _ _ _ _ _ _ _ _ c.loop-v.invariant step.0 step.1 c.heaviest-pick.ensures.first in
    omega (arith, c.from.ensures, c.heaviest-pick.ensures.weight)

pub add-requires : goal.add-requires
add-requires c =
    let step = c.in-Some.ensures.steps.1 in
    rw (c.from.ensures, c.heaviest-pick.ensures.weight)
    (room_ahead _ c.requires _ _ _ _ _ _ _ _ c.loop-v.invariant step.0 step.1 c.heaviest-pick.ensures.first)

pub loop-v-preserved : goal.loop-v-preserved
loop-v-preserved c =
    let step = c.in-Some.ensures.steps.1 in
    less_ahead _ c.requires _ _ _ _ _ _ _ _ c.loop-v.invariant step.0 step.1 c.heaviest-pick.ensures.first
    _ _ c.in-Some.ensures.steps.0 (rw (c.from.ensures, c.heaviest-pick.ensures.weight) at c.add.ensures)

pub returns : goal.returns
returns c = none_ahead _ c.requires _ _ _ _ c.loop-v.invariant c.in-None.ensures.steps.1.0
