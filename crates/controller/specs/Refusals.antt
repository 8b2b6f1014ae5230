-- The numbers of refusals, and what each adds to its number. Assumes nothing.
use Rattle.std.specs.Prelude.{ℕ, Some, None as nothing, Option}
use Rattle.task.specs.Described.{refusal_number as table_number, refusal_added as table_added}
use Rattle.controller.specs.declared.refusal.Refusal.{Refusal}
use Rattle.controller.specs.declared.refusal.Refusal.TheVariants.{Cores, NoSlot, JobOpen, Occupied, Table, Time, Empty, NoNode, NoBounds, ShortList, TickOpen, NotAdmitted, TooSoon, StillOpen, NoTick, Outcomes, Outcome}

abbrev pub refusal_number : Refusal → ℕ
refusal_number Cores = 1
refusal_number NoSlot = 2
refusal_number JobOpen = 3
refusal_number Occupied = 4
refusal_number (Table r) = table_number r
refusal_number Time = 6
refusal_number Empty = 8
refusal_number NoNode = 9
refusal_number NoBounds = 10
refusal_number (ShortList needed) = 11
refusal_number TickOpen = 12
refusal_number NotAdmitted = 13
refusal_number (TooSoon to_go) = 14
refusal_number StillOpen = 15
refusal_number NoTick = 16
refusal_number (Outcomes cores) = 17
refusal_number (Outcome core) = 18

-- the offset of a record or the number of a rule; 0 for a time; the entries needed; the ticks to go; the cores; the core
abbrev pub refusal_added : Refusal → Option ℕ
refusal_added Cores = nothing
refusal_added NoSlot = nothing
refusal_added JobOpen = nothing
refusal_added Occupied = nothing
refusal_added (Table r) = Some (table_added r)
refusal_added Time = Some 0
refusal_added Empty = nothing
refusal_added NoNode = nothing
refusal_added NoBounds = nothing
refusal_added (ShortList needed) = Some needed
refusal_added TickOpen = nothing
refusal_added NotAdmitted = nothing
refusal_added (TooSoon to_go) = Some to_go
refusal_added StillOpen = nothing
refusal_added NoTick = nothing
refusal_added (Outcomes cores) = Some cores
refusal_added (Outcome core) = Some core
