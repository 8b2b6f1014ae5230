-- The numbers under which a table is refused, and what each adds. Assumes nothing.
use Rattle.std.specs.Prelude.{ℕ}
use Rattle.table.specs.declared.fault.Fault.{Fault}
use Rattle.table.specs.declared.fault.Fault.TheVariants.{Layout, Range}

abbrev pub fault_number : Fault → ℕ
fault_number (Layout offset fault) = 5
fault_number (Range offset misfit) = 6

-- the offset of the record
abbrev pub fault_added : Fault → ℕ
fault_added (Layout offset fault) = offset
fault_added (Range offset misfit) = offset
