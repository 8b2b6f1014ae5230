use Rattle.std.proofs.Common.{◌≡◌, ℕ, subst, arith}
use Rattle.dispatch.specs.Search.{RowHas}
use Rattle.dispatch.specs.Tables.{AheadIn}
use Rattle.dispatch.proofs.Fills.{Filling, filling_none, filling_more, filled_early, filled_all}
use Rattle.dispatch.proofs.placing.fill.Goals as goal

pub loop-core-init : goal.loop-core-init
loop-core-init c = filling_none c.args.ready.now (RowHas c.args.kept.now) (AheadIn c.args.ahead.now) c.told-ready

pub loop-core-preserved : goal.loop-core-preserved
loop-core-preserved c =
    filling_more c.args.ready.now (RowHas c.args.kept.now) (AheadIn c.args.ahead.now) c.loop-core.spots c.loop-core.left
    c.loop-core.core c.in-Some.spot c.without.result c.loop-core.invariant (omega arith) c.in-Some.ensures c.without.ensures

pub returns-in_default : goal.returns-in_default
returns-in_default c =
    filled_early c.args.ready.now (RowHas c.args.kept.now) (AheadIn c.args.ahead.now) c.loop-core.spots c.loop-core.left
    c.args.cores c.loop-core.core c.loop-core.invariant (omega arith) c.in_default.ensures

pub returns : goal.returns
returns c =
    let e : c.loop-core.core ≡ c.args.cores = omega arith in
    filled_all c.args.ready.now (RowHas c.args.kept.now) (AheadIn c.args.ahead.now) c.loop-core.spots c.loop-core.left c.args.cores
    (subst (λ (k : ℕ). Filling c.args.ready.now (RowHas c.args.kept.now) (AheadIn c.args.ahead.now) c.loop-core.spots c.loop-core.left k)
    e c.loop-core.invariant)
