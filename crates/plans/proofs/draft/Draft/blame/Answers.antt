use Rattle.std.proofs.Common.{ℕ, List, subst, ap, ◌∙◌, refl, inl}
use Rattle.plans.specs.Entries.{HasSlot}
use Rattle.plans.specs.Parsed.{TakesSlot}
use Rattle.plans.specs.Statements.{texts}
use Rattle.plans.specs.Entries.{ToldEntry, told_entries}
use Rattle.plans.proofs.Texts.{slot_free}
use Rattle.plans.proofs.draft.Draft.blame.Goals as goal
use Rattle.plans.proofs.draft.Draft.blame.Goals.{in_default-via-in-Some+else-is_taken, in_default-via-in_default}

pub returns-in_default : goal.returns-in_default
returns-in_default c = λ ps k some none.
    let free : (slot : ℕ) → TakesSlot slot ps (texts c.args.words.now) → ⊥ =
    elim c.in_default.branch [
      | in_default-via-in-Some+else-is_taken w ↦ slot_free ps (texts c.args.words.now) w.in-Some.slot w.in-Some.ensures
          (subst (λ (es : List ToldEntry). HasSlot w.in-Some.slot es → ⊥) (ap told_entries w.deref.ensures.value ∙ k.entries_kept) w.if-is_taken.ensures)
      | in_default-via-in_default w ↦ λ slot t. w.in_default.ensures slot t.0
    ] in
    (refl, inl (some, none, free))
