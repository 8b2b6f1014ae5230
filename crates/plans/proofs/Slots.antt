-- Whether an entry has a slot, entry by entry.
use Rattle.std.proofs.Common.{◌≡◌, ℕ, zero, suc, ◌<◌, Bool, true, false, MatchBool, List, [], ◌∷◌, length, inl, inr, arith}
use Rattle.std.specs.List.{AllWithin, HoldsAt}
use Rattle.plans.specs.declared.plan.Entry.{Entry}
use Rattle.plans.specs.Entries.{told_entries, HasSlot}

slot_at : (es : List Entry) (k slot : ℕ) → k < length es → HoldsAt (λ (e : Entry). e.slot ≡ slot) es k → HasSlot slot (told_entries es)
slot_at [] k slot l h = absurd (omega arith)
slot_at (e ∷ es) zero slot l h = inl (h e)
slot_at (e ∷ es) (suc k) slot l h = inr (slot_at es k slot (omega arith) h)

slot_nowhere : (es : List Entry) (slot : ℕ) → AllWithin (λ (e : Entry). e.slot ≡ slot → ⊥) es 0 (length es) → HasSlot slot (told_entries es) → ⊥
slot_nowhere [] slot a h = h
slot_nowhere (e ∷ es) slot a (inl s) = a 0 e (omega arith) (omega arith) s
slot_nowhere (e ∷ es) slot a (inr h) = slot_nowhere es slot (λ k d l m. a (suc k) d (omega arith) (omega arith)) h

pub slot_told : (es : List Entry) (slot : ℕ) (r : Bool)
    → MatchBool r ((k : ℕ) × (k < length es) × HoldsAt (λ (e : Entry). e.slot ≡ slot) es k) (AllWithin (λ (e : Entry). e.slot ≡ slot → ⊥) es 0 (length es))
    → MatchBool r (HasSlot slot (told_entries es)) (HasSlot slot (told_entries es) → ⊥)
slot_told es slot true h = slot_at es h.0 slot h.1 h.2
slot_told es slot false h = slot_nowhere es slot h
