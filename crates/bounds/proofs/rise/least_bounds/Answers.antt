use Rattle.std.proofs.Common.{ℕ, [], get_or, Ok, Err, Some, None, ◌∙◌, subst, rules}
use Rattle.std.proofs.lemmas.Result.{err_from_is_err_and}
use Rattle.bounds.specs.declared.plan.Plan.{Plan}
use Rattle.bounds.specs.Steps.{Current, Reopened}
use Rattle.bounds.proofs.Steps.{moves_at, first_sound, none_pending, stays, stays_less, rises, rises_less, refused}
use Rattle.bounds.proofs.rise.least_bounds.Goals as goal

pub loop-k-init : goal.loop-k-init
loop-k-init g c = record {
  plan = c.new-rise.ensures.plan;
  sound =
      first_sound (g.O.Order.means c.args.order.now).most c.args.plan.now c.new-rise.result.bounds c.new-rise.result.caps
      c.tasks-pending.result c.new-rise.ensures.bounds c.new-rise.ensures.caps c.tasks-pending.ensures;
}

pub loop-k-smaller-in-None : goal.loop-k-smaller-in-None
loop-k-smaller-in-None g c =
    stays_less (g.met.O.Order.orderly c.args.order.now) c.loop-k.invariant.sound c.in-Some.k c.in-Some.ensures.inside
    c.without-pending.result c.without-pending.ensures

pub loop-k-preserved-in-None : goal.loop-k-preserved-in-None
loop-k-preserved-in-None g c =
    let step =
    moves_at c.loop-k.rise.caps c.loop-k.rise.plan c.args.plan.now c.loop-k.rise.bounds c.at-slot.result.number c.in-Some.k (Ok None)
    c.loop-k.invariant.plan c.at-slot.ensures (search rules) in
    record {
      plan = c.loop-k.invariant.plan;
      sound =
          stays (g.met.O.Order.orderly c.args.order.now) c.loop-k.invariant.sound c.in-Some.k c.in-Some.ensures.inside
          c.without-pending.result c.without-pending.ensures step;
    }

pub loop-k-smaller : goal.loop-k-smaller
loop-k-smaller g c =
    let step =
    moves_at c.loop-k.rise.caps c.loop-k.rise.plan c.args.plan.now c.loop-k.rise.bounds c.at-slot.result.number c.in-Some.k
    (Ok (Some c.in-Some-2.bound)) c.loop-k.invariant.plan c.at-slot.ensures (search rules) in
    rises_less (g.met.O.Order.orderly c.args.order.now) c.loop-k.invariant.sound c.in-Some.k c.in-Some.ensures.inside
    c.in-Some-2.bound step c.raise.new.self.bounds c.reopened-pending.result (search rules)

pub loop-k-preserved : goal.loop-k-preserved
loop-k-preserved g c =
    let most = (g.O.Order.means c.args.order.now).most in
    let now = c.loop-k.invariant in
    let rise = c.raise.new.self in
    let step =
    moves_at c.loop-k.rise.caps c.loop-k.rise.plan c.args.plan.now c.loop-k.rise.bounds c.at-slot.result.number c.in-Some.k
    (Ok (Some c.in-Some-2.bound)) now.plan c.at-slot.ensures (search rules) in
    let kept_on =
    subst (λ (p : Plan). Current most p c.loop-k.rise.bounds c.loop-k.rise.caps → Current most p rise.bounds rise.caps) now.plan c.raise.ensures.caps
    now.sound.current in
    let open_again =
    subst (λ (k : ℕ). Reopened c.loop-k.pending (get_or rise.caps k []) c.reopened-pending.result) c.at-slot.ensures c.reopened-pending.ensures in
    record {
      plan = c.raise.ensures.plan ∙ now.plan;
      sound =
          rises (g.met.O.Order.orderly c.args.order.now) now.sound c.in-Some.k c.in-Some.ensures.inside c.in-Some-2.bound step rise.bounds rise.caps
          c.reopened-pending.result (search rules) kept_on open_again;
    }

pub returns-in_err-next_bound : goal.returns-in_err-next_bound
returns-in_err-next_bound g c =
    let passed = c.in_err-next_bound.field-0.0 in
    let step =
    moves_at c.loop-k.rise.caps c.loop-k.rise.plan c.args.plan.now c.loop-k.rise.bounds c.at-slot.result.number c.in-Some.k
    (Err passed) c.loop-k.invariant.plan c.at-slot.ensures c.in_err-next_bound.ensures in
    let told =
    refused (g.met.O.Order.orderly c.args.order.now) c.loop-k.invariant.sound c.in-Some.k c.in-Some.ensures.inside passed step in
    let e = err_from_is_err_and c.from_residual.result c.from_residual.ensures.1 in
    rw (e.1, e.2) told

pub returns : goal.returns
returns g c = none_pending (g.met.O.Order.orderly c.args.order.now) c.loop-k.invariant.sound c.in_default.ensures
