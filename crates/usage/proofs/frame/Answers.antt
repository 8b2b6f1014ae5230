use Rattle.std.proofs.Common.{refl, ap, ◌∙◌}
use Rattle.controller.specs.Calls.{Release, OpenTick, CloseTick}
use Rattle.order.specs.Laws.{Meaning}
use Rattle.usage.proofs.Onward.{onward}
use Rattle.usage.proofs.frame.Goals as goal

pub returns : goal.returns
returns g c h past =
    let means : g.row.O.Denot → Meaning = g.O.Order.means in
    let o = means c.args.scanner.now.order in
    let first = c.release.ensures.same in
    let second = c.open_tick.ensures.same in
    let one = onward o o c.args.scanner.now.tables c.release.new.self.tables (Release c.args.slot) c.release.result h refl past c.release.ensures.kept in
    let two = onward o (means c.release.new.self.order) c.release.new.self.tables c.open_tick.new.self.tables
    (OpenTick c.args.cores.now) (c.open_tick.result, c.open_tick.new.list) one.events (ap means first) one.led_here c.open_tick.ensures.kept in
    onward o (means c.open_tick.new.self.order) c.open_tick.new.self.tables c.close_tick.new.self.tables
    (CloseTick c.args.outcomes.now) c.close_tick.result two.events (ap means (second ∙ first)) two.led_here c.close_tick.ensures.kept
