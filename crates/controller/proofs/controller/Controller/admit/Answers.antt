use Rattle.std.proofs.Common.{Ok, Err, refl, inl, inr}
use Rattle.std.proofs.lemmas.Result.{err_from_is_err_and}
use Rattle.controller.specs.declared.refusal.Refusal.TheVariants.{NoBounds}
use Rattle.controller.specs.Calls.{Admit}
use Rattle.controller.specs.Does.{Does}
use Rattle.controller.proofs.Histories.{kept}
use Rattle.controller.proofs.Plans.{equal_answers}
use Rattle.controller.proofs.controller.Controller.admit.Goals as goal

pub returns-in_err-may_admit : goal.returns-in_err-may_admit
returns-in_err-may_admit g c =
    let order = c.args.self.now.order in
    let t = c.args.self.now.tables in
    let list = c.args.list.now in
    let o = g.O.Order.means order in
    let e = c.in_err-may_admit.field-0.0 in
    let p = err_from_is_err_and c.from_residual.result c.from_residual.ensures.1 in
    let does : Does o t (Admit list) (Err e, list) t =
    record { refused = record { away = c.in_err-may_admit.ensures o; unchanged = refl }; list_unchanged = refl } in
    rw (p.1, p.2) (record {
      kept = kept o (g.met.O.Order.orderly order) t (Admit list) (Err e, list) t does;
      equal = equal_answers o (g.met.O.Order.orderly order) t list (Err e, list) t does;
      same = refl;
      refused = (refl, refl);
    })

pub returns-in_err-bounds : goal.returns-in_err-bounds
returns-in_err-bounds g c =
    let order = c.args.self.now.order in
    let t = c.args.self.now.tables in
    let list = c.args.list.now in
    let o = g.O.Order.means order in
    let may = c.in_ok-may_admit.ensures in
    let p = err_from_is_err_and c.from_residual-in_err-bounds.result c.from_residual-in_err-bounds.ensures.1 in
    let does : Does o t (Admit list) (Err NoBounds, list) t =
    record {
      refused = record { away = inr (may.0, inr (may.1, inr (may.2, inl (c.in_err-bounds.ensures.1, refl)))); unchanged = refl };
      list_unchanged = refl;
    } in
    rw (p.1, p.2) (record {
      kept = kept o (g.met.O.Order.orderly order) t (Admit list) (Err NoBounds, list) t does;
      equal = equal_answers o (g.met.O.Order.orderly order) t list (Err NoBounds, list) t does;
      same = refl;
      refused = (refl, refl);
    })

pub returns : goal.returns
returns g c =
    let order = c.args.self.now.order in
    let t = c.args.self.now.tables in
    let u = c.keep_bounds.new.self in
    let list = c.args.list.now in
    let after = c.keep_bounds.new.list in
    let n = c.keep_bounds.result in
    let o = g.O.Order.means order in
    let may = c.in_ok-may_admit.ensures in
    let k = c.keep_bounds.ensures in
    let does : Does o t (Admit list) (Ok n, after) u = (
      (may.0, (may.1, (may.2, ((c.in_ok-bounds.bounds, c.in_ok-bounds.ensures), tt)))),
      record {
        bounds = c.in_ok-bounds.bounds;
        least = c.in_ok-bounds.ensures;
        kept = k.kept;
        told = k.told;
        counted = k.counted;
        same = record { same_plan = k.same.same_plan; same_held = k.same.same_held };
        same_jobs = k.same_jobs;
        same_waited = k.same_waited;
        same_tick = k.same_tick;
      },
    ) in
    record {
      kept = kept o (g.met.O.Order.orderly order) t (Admit list) (Ok n, after) u does;
      equal = equal_answers o (g.met.O.Order.orderly order) t list (Ok n, after) u does;
      same = refl;
      refused = tt;
    }
