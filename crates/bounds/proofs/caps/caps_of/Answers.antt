use Rattle.std.proofs.Common.{rules, None}
use Rattle.order.specs.declared.slot.Slot.{Slot}
use Rattle.bounds.proofs.caps.caps_of.Goals as goal

pub returns : goal.returns
returns g c = record { sized = search rules; asked = λ k e d l ne h t. (let s : Slot = record { number = k; in_range = l } in let w = c.map_all.ensures s None in search rules) }
