use Rattle.std.proofs.Common.{refl, ap}
use Rattle.controller.specs.declared.tables.Tables.{Tables}
use Rattle.controller.specs.declared.controller.Controller.{Controller}
use Rattle.controller.specs.Calls.{CloseTick}
use Rattle.controller.proofs.Histories.{kept}
use Rattle.controller.proofs.Refusing.{on_refusal, close_refused}
use Rattle.controller.proofs.controller.Controller.close_tick.Goals as goal

pub returns : goal.returns
returns g c =
    let order = c.args.self.now.order in
    let t = c.args.self.now.tables in
    let u = c.close_tick.new.self in
    let o = g.O.Order.means order in
    let does = c.close_tick.ensures o in
    record {
      kept = kept o (g.met.O.Order.orderly order) t (CloseTick c.args.outcomes.now) c.close_tick.result u does;
      same = refl;
      refused = on_refusal c.close_tick.result
          (ap (λ (x : Tables). let y : Controller g.row.O.Denot = record { order = order; tables = x } in y))
          (close_refused o t u c.args.outcomes.now c.close_tick.result does);
    }
