use Rattle.std.proofs.Common.{◌≡◌, ℕ, ◌<◌, length}
use Rattle.sets.specs.Sets.{Marks}
use Rattle.dispatch.specs.Tables.{row}
use Rattle.controller.specs.Ahead.{AheadAmong}
use Rattle.controller.proofs.precedence.precedence.Given as goal

abbrev pub invariant-loop-slot : goal.invariant-loop-slot
invariant-loop-slot g l =
    (length l.rows ≡ 16) × ((k : ℕ) → k < l.slot → Marks (AheadAmong (g.O.Order.means l.order).goes l.entrants k) (row l.rows k))
