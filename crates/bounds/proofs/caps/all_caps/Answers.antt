use Rattle.std.proofs.Common.{[], rules}
use Rattle.order.specs.declared.slot.Slot.{Slot}
use Rattle.bounds.proofs.caps.all_caps.Goals as goal

pub returns : goal.returns
returns g c = record { sized = search rules; rows = λ i l. (let s : Slot = record { number = i; in_range = l } in let w = c.map_all.ensures s [] in search rules) }
