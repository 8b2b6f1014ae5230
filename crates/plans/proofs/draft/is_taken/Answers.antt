use Rattle.std.proofs.Common.{◌≡◌, rules}
use Rattle.std.proofs.lemmas.Iterator.{YieldsList-from_slice, cases_from_any}
use Rattle.plans.specs.declared.plan.Entry.{Entry}
use Rattle.plans.proofs.Slots.{slot_told}
use borrow.Author.Tests.{tests}
use Rattle.plans.proofs.draft.is_taken.Goals as goal

pub returns : goal.returns
returns c =
    slot_told c.args.entries.now c.args.slot c.any.result (
    cases_from_any _ _ _ (λ (e : Entry). e.slot ≡ c.args.slot) (λ (e : Entry). e.slot ≡ c.args.slot → ⊥) c.any.ensures.ran
    (YieldsList-from_slice c.args.entries.now cc) (λ x q k. search (rules, tests)) (λ x q k. search (rules, tests))
    )
