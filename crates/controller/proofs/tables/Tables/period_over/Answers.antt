use Rattle.std.proofs.Common.{◌-◌, Some, None, refl, ap, arith}
use Rattle.table.specs.declared.records.Timing.{Timing}
use Rattle.controller.proofs.Editing.{read_at}
use Rattle.controller.proofs.tables.Tables.period_over.Goals as goal

pub returns-in-Some : goal.returns-in-Some
returns-in-Some c = λ o. (
  _,
  record {
    task = c.args.task.now;
    held = c.requires;
    waited = c.in-Some.ticks;
    since = read_at c.args.self.now.waited c.index.result c.args.slot.number _ None (Some c.in-Some.ticks) c.index.ensures.value
        (omega (arith, c.index.ensures.in_range, c.args.self.now.sized.2)) c.in-Some.is;
    short = omega (arith, ap (λ (t : Timing). t.period) c.timing-period.ensures);
    left = ap (λ (t : Timing). t.period - c.in-Some.ticks) c.timing-period.ensures;
  },
  refl,
)
