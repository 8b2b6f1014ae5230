use Rattle.std.proofs.Common.{◌<◌, None, ap, ◌∙◌, arith, length-set, get_or-set_other, get_or-set_same, below_more}
use Rattle.controller.specs.Effects.{one_more}
use Rattle.controller.proofs.Waiting.{all_waited}
use Rattle.controller.proofs.ticks.wait_a_tick.Goals as goal

pub loop-slot-preserved : goal.loop-slot-preserved
loop-slot-preserved c =
    let i = c.loop-slot.slot in
    let now = c.loop-slot.waited in
    let x = c.wait_longer.result in (
      length-set now i x ∙ c.loop-slot.invariant.0,
      below_more _ _
          (λ k h. get_or-set_other now i k x None (λ e. let z : k < i = h in omega (arith, e)) ∙ c.loop-slot.invariant.1 k h)
          (get_or-set_same now i x None (omega (arith, c.loop-slot.invariant.0)) ∙ c.wait_longer.ensures ∙ ap one_more (c.loop-slot.invariant.2 i (omega arith))),
      λ k h. get_or-set_other now i k x None (λ e. omega (arith, e)) ∙ c.loop-slot.invariant.2 k (omega arith),
    )

pub returns : goal.returns
returns c = all_waited c.args.waited.now c.loop-slot.waited c.loop-slot.invariant.0 (λ k l. c.loop-slot.invariant.1 k (omega (arith, c.loop-slot.invariant.0)))
