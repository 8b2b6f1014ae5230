use Rattle.std.proofs.Common.{refl, ap}
use Rattle.controller.specs.declared.tables.Tables.{Tables}
use Rattle.controller.specs.declared.controller.Controller.{Controller}
use Rattle.controller.specs.Calls.{Release}
use Rattle.controller.proofs.Histories.{kept}
use Rattle.controller.proofs.Refusing.{on_refusal, release_refused}
use Rattle.controller.proofs.controller.Controller.release.Goals as goal

pub returns : goal.returns
returns g c =
    let order = c.args.self.now.order in
    let t = c.args.self.now.tables in
    let u = c.release.new.self in
    let o = g.O.Order.means order in
    let does = c.release.ensures o in
    record {
      kept = kept o (g.met.O.Order.orderly order) t (Release c.args.slot) c.release.result u does;
      same = refl;
      refused = on_refusal c.release.result
          (ap (λ (x : Tables). let y : Controller g.row.O.Denot = record { order = order; tables = x } in y))
          (release_refused o t u c.args.slot c.release.result does);
    }
