use Rattle.std.proofs.Common.{ℕ, ◌+◌, List, Option, sym, ap, ◌∙◌, subst₂, arith}
use lib.Bits.{bit_or}
use Rattle.std.proofs.lemmas.Nat.{one_shl}
use Rattle.dispatch.specs.declared.job.Job.{Job}
use Rattle.dispatch.proofs.Lefts.{ClosingBelow, closing_still, closing_ends, closing_stays}
use Rattle.dispatch.proofs.closing.close.Goals as goal
use Rattle.dispatch.proofs.closing.close.Goals.{in-Some+in-Some-after, in-Some+in-None, in_default}

pub loop-slot-preserved : goal.loop-slot-preserved
loop-slot-preserved c =
    let tasks = c.args.tasks.now in
    let jobs = c.args.jobs.now in
    let spots = c.args.spots.now in
    let outcomes = c.args.outcomes.now in
    let k = c.loop-slot.slot in
    let mask = c.loop-slot.ended in
    let left = c.loop-slot.jobs in
    let closing = c.loop-slot.invariant in
    elim c.match-open_in.branch [
      | in-Some+in-Some-after w ↦
          subst₂ (λ (x : ℕ) (y : List (Option Job)). ClosingBelow tasks jobs spots outcomes (k + 1) x y) (sym w.ended-is) (sym w.jobs-is)
          (closing_stays tasks jobs spots outcomes k mask left closing (omega arith) w.in-Some.open.task.now w.in-Some.open.job.now
          w.in-Some.ensures w.in-Some-after.later w.in-Some-after.ensures)
      | in-Some+in-None w ↦
          subst₂ (λ (x : ℕ) (y : List (Option Job)). ClosingBelow tasks jobs spots outcomes (k + 1) x y)
          (sym (w.ended-is ∙ ap (λ (x : ℕ). bit_or mask x) (one_shl k 16 (omega arith)))) (sym w.jobs-is)
          (closing_ends tasks jobs spots outcomes k mask left closing (omega arith) w.in-Some.open.task.now w.in-Some.open.job.now
          w.in-Some.ensures w.in-None.ensures)
      | in_default w ↦
          subst₂ (λ (x : ℕ) (y : List (Option Job)). ClosingBelow tasks jobs spots outcomes (k + 1) x y) (sym w.ended-is) (sym w.jobs-is)
          (closing_still tasks jobs spots outcomes k mask left closing (omega arith) w.in_default.ensures)
    ]
