-- The deadline of a task stands in bytes 8 to 11 of its table.
use Rattle.std.proofs.Common.{◌≡◌, ℕ, List, Ok, sym, ap, ◌∙◌, arith}
use Rattle.table.specs.declared.records.Table.{Table}
use Rattle.table.specs.Whole.{Encodes}
use Rattle.table.proofs.Bytes.{number_back}
use Rattle.task.specs.Described.{Told}
use Rattle.controller.specs.Book.{deadline_told}

encoded : (bytes : List ℕ) (table : Table) → Encodes bytes table → deadline_told bytes ≡ table.timing.deadline
encoded bytes table e =
    ap deadline_told e.bytes_are
    ∙ sym (number_back e.timing.deadline (omega (arith, e.lawful.task_in_range.deadline_in_period, e.lawful.task_in_range.short_period)))
    ∙ ap (λ (x : Table). x.timing.deadline) (sym e.holds)

pub deadline_is_told : (bytes : List ℕ) (table : Table) → Told bytes (Ok table) → deadline_told bytes ≡ table.timing.deadline
deadline_is_told bytes table d = encoded bytes table d.right.encodes
