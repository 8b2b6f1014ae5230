use Rattle.std.proofs.Common.{refl, ap}
use Rattle.controller.specs.declared.tables.Tables.{Tables}
use Rattle.controller.specs.declared.controller.Controller.{Controller}
use Rattle.controller.specs.Calls.{Add}
use Rattle.controller.proofs.Histories.{kept}
use Rattle.controller.proofs.Refusing.{on_refusal, add_refused}
use Rattle.controller.proofs.controller.Controller.add.Goals as goal

pub returns : goal.returns
returns g c =
    let order = c.args.self.now.order in
    let t = c.args.self.now.tables in
    let u = c.add.new.self in
    let o = g.O.Order.means order in
    let does = c.add.ensures o in
    record {
      kept = kept o (g.met.O.Order.orderly order) t (Add c.args.slot c.args.table.now) c.add.result u does;
      same = refl;
      refused = on_refusal c.add.result
          (ap (λ (x : Tables). let y : Controller g.row.O.Denot = record { order = order; tables = x } in y))
          (add_refused o t u c.args.slot c.args.table.now c.add.result does);
    }
