use Rattle.std.proofs.Common.{List, refl, subst, ap, ◌∙◌}
use Rattle.plans.specs.Entries.{ToldSource, ToldEntry, told_entries, HasSlot}
use Rattle.plans.specs.Statements.{told_table}
use Rattle.plans.proofs.Drafting.{task_taken}
use Rattle.plans.proofs.draft.Draft.task.Goals as goal

pub returns : goal.returns
returns c = λ ps k. (
  subst (λ (es : List ToldEntry). HasSlot c.args.slot es → ⊥) (ap told_entries c.deref.ensures.value ∙ k.entries_kept) c.if-is_taken.ensures,
  task_taken c.args.self.now _ ps c.args.line k c.args.name.now c.args.slot (told_table c.args.origin) _ refl refl c.in_ok-push.ensures.items
      (ap (λ (s : ToldSource). record { name = c.args.name.now; slot = c.args.slot; line = c.args.line; source = s }) c.in_ok-source.ensures),
)
