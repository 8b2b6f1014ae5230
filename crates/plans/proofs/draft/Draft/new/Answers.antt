use Rattle.std.proofs.Common.{refl, ap}
use Rattle.plans.specs.Entries.{last_said, told_entries, entries}
use Rattle.plans.proofs.draft.Draft.new.Goals as goal

pub returns : goal.returns
unfolding last_said entries
returns c = record { cores_kept = refl; order_kept = refl; entries_kept = ap told_entries c.new.ensures.items }
