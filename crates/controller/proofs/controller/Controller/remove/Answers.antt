use Rattle.std.proofs.Common.{refl, ap}
use Rattle.controller.specs.declared.tables.Tables.{Tables}
use Rattle.controller.specs.declared.controller.Controller.{Controller}
use Rattle.controller.specs.Calls.{Remove}
use Rattle.controller.proofs.Histories.{kept}
use Rattle.controller.proofs.Refusing.{on_refusal, remove_refused}
use Rattle.controller.proofs.controller.Controller.remove.Goals as goal

pub returns : goal.returns
returns g c =
    let order = c.args.self.now.order in
    let t = c.args.self.now.tables in
    let u = c.remove.new.self in
    let o = g.O.Order.means order in
    let does = c.remove.ensures o in
    record {
      kept = kept o (g.met.O.Order.orderly order) t (Remove c.args.slot) c.remove.result u does;
      same = refl;
      refused = on_refusal c.remove.result
          (ap (λ (x : Tables). let y : Controller g.row.O.Denot = record { order = order; tables = x } in y))
          (remove_refused o t u c.args.slot c.remove.result does);
    }
