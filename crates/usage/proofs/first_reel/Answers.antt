use Rattle.std.proofs.Common.{[], ap, ◌∙◌}
use Rattle.controller.specs.Calls.{Add, Admit}
use Rattle.order.specs.Laws.{Meaning}
use Rattle.usage.proofs.Onward.{onward}
use Rattle.usage.proofs.first_reel.Goals as goal

pub returns : goal.returns
returns g c =
    let means : g.row.O.Denot → Meaning = g.O.Order.means in
    let o = means c.args.order in
    let opening = c.in_ok-scanner.ensures in
    let first = opening.opened.0 in
    let second = c.add.ensures.same in
    let one = onward o (means c.in_ok-scanner.scanner.order) c.in_ok-scanner.scanner.tables c.add.new.self.tables (Add 0 c.args.table.now) c.add.result []
    (ap means first) opening.begins c.add.ensures.kept in
    onward o (means c.add.new.self.order) c.add.new.self.tables c.admit.new.self.tables
    (Admit c.args.bounds.now) (c.admit.result, c.admit.new.list) one.events (ap means (second ∙ first)) one.led_here c.admit.ensures.kept
