-- One call more.
use Rattle.std.proofs.Common.{◌≡◌, List, ◌∷◌, subst}
use Rattle.controller.specs.declared.tables.Tables.{Tables}
use Rattle.controller.specs.Calls.{Call, Answer, Event}
use Rattle.controller.specs.Does.{History}
use Rattle.controller.specs.Promise.{Kept}
use Rattle.order.specs.Laws.{Meaning}
use Rattle.usage.specs.Reached.{InTimeAt}

-- the order may be known by another name that means the same
pub onward : (o q : Meaning) (t u : Tables) (c : Call) (a : Answer c) (h : List Event) → q ≡ o → History o h t → Kept q t c a u → InTimeAt o u
onward o q t u c a h same past kept =
    let k = subst (λ (x : Meaning). Kept x t c a u) same kept in
    record { events = (c, a) ∷ h; led_here = k.further h past; in_time = k.in_time h past }
