use Rattle.std.proofs.Common.{◌≡◌, ◌-◌, ◌≤◌, length}
use Rattle.table.proofs.Kept.{Kept}
use Rattle.table.proofs.read.Given as goal

abbrev pub invariant-loop-part : goal.invariant-loop-part
invariant-loop-part l =
    (l.reader.table.now ≡ l.table)
    × (l.reader.at ≤ length l.table)
    × Kept l.table l.reader.at l.reader.seen l.records

abbrev pub decreases-loop-part : goal.decreases-loop-part
decreases-loop-part l = length l.table - l.reader.at
