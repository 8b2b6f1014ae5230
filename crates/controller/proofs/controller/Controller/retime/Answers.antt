use Rattle.std.proofs.Common.{refl, ap}
use Rattle.controller.specs.declared.tables.Tables.{Tables}
use Rattle.controller.specs.declared.controller.Controller.{Controller}
use Rattle.controller.specs.Calls.{Retime}
use Rattle.controller.proofs.Histories.{kept}
use Rattle.controller.proofs.Refusing.{on_refusal, retime_refused}
use Rattle.controller.proofs.controller.Controller.retime.Goals as goal

pub returns : goal.returns
returns g c =
    let order = c.args.self.now.order in
    let t = c.args.self.now.tables in
    let u = c.retime.new.self in
    let o = g.O.Order.means order in
    let does = c.retime.ensures o in
    record {
      kept = kept o (g.met.O.Order.orderly order) t (Retime c.args.slot c.args.node c.args.time) c.retime.result u does;
      same = refl;
      refused = on_refusal c.retime.result
          (ap (λ (x : Tables). let y : Controller g.row.O.Denot = record { order = order; tables = x } in y))
          (retime_refused o t u c.args.slot c.args.node c.args.time c.retime.result does);
    }
