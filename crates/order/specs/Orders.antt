-- The orders that there are. Assumes nothing.
use Rattle.std.specs.Prelude.{ℕ, Bool, true, cond, ℤ, Some, None, Option, nat_lt}
use Rattle.order.specs.declared.Party.{Party}
use Rattle.order.specs.Laws.{Meaning}

-- fixed: the smaller slot goes ahead, and no job of a greater slot does
abbrev pub smaller_slot : Party → Party → ℤ → Bool
smaller_slot i k d = nat_lt i.slot k.slot

abbrev pub slot_cap : Party → Party → ℕ → Option ℕ
slot_cap i k R = cond (nat_lt i.slot k.slot) None (Some 0)

abbrev pub fixed_order : Meaning
fixed_order = record { goes = smaller_slot; most = slot_cap }

-- open: every job goes ahead of every other
abbrev pub any_job : Party → Party → ℤ → Bool
any_job i k d = true

abbrev pub no_cap : Party → Party → ℕ → Option ℕ
no_cap i k R = None

abbrev pub open_order : Meaning
open_order = record { goes = any_job; most = no_cap }
