-- Slots of the same number.
use Rattle.std.proofs.Common.{◌≡◌, ℕ, ◌<◌, ap, subst}
use Rattle.std.proofs.Math.Bridge.{le_prop}
use Rattle.order.specs.declared.slot.Slot.{Slot}

slot : (n : ℕ) → n < 16 → Slot
slot n l = record { number = n; in_range = l }

pub same_slot : (a b : Slot) → a.number ≡ b.number → a ≡ b
unfolding slot
same_slot a b e =
    subst (λ (n : ℕ). (l : n < 16) → a ≡ slot n l) e (λ l. ap (λ (h : a.number < 16). slot a.number h) (le_prop a.in_range l)) b.in_range
