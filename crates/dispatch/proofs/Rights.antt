-- Right outcomes, by the tables and by what a slot holds.
use Rattle.std.proofs.Common.{◌≡◌, ℕ, zero, suc, ◌≤◌, Bool, false, List, length, Some, None, Option, refl, subst, arith}
use Rattle.std.proofs.lemmas.List.{get_or_past}
use Rattle.jobs.specs.Job.{Outcome}
use Rattle.sets.specs.Tests.{Says}
use Rattle.sets.proofs.Says.{says_like, says_no}
use Rattle.task.specs.declared.held.Task.{Task}
use Rattle.dispatch.specs.declared.board.OpenJob.{OpenJob}
use Rattle.dispatch.specs.declared.job.Job.{Job}
use Rattle.dispatch.specs.declared.spot.Spot.{Spot}
use Rattle.dispatch.specs.Closing.{meant, byte_at, Right, RightAt, RightFor, AllRight}
use Rattle.dispatch.specs.Moves.{RightInSlot, Suits}
use Rattle.dispatch.specs.Spots.{spot}
use Rattle.dispatch.specs.Tables.{task_at, job_at, task_nodes, Holds, OpenAt}
use Rattle.dispatch.proofs.Rows.{some_task, some_job}

none_task : (a : Task) (x : Option Task) → x ≡ Some a → x ≡ None → ⊥
none_task a x e f = let z : ◌≡◌ {A = ℕ} 0 1 = cc in omega arith

module _ (tasks : List (Option Task)) (jobs : List (Option Job)) where
  -- an outcome is right at a slot just where it is right for the job that is open there
  module _ (p : Spot) (o : Outcome) where
    right_at : (task : Task) (job : Job) → Holds tasks jobs p.slot task job → Right (task_nodes task) job.states p.node o → RightAt tasks jobs p o
    right_at task job h r = record { task = task; its_task = h.its_task; job = job; its_job = h.its_job; right = r }

    right_there : (task : Task) (job : Job) → Holds tasks jobs p.slot task job → RightAt tasks jobs p o → Right (task_nodes task) job.states p.node o
    right_there task job h r =
        subst (λ (x : Task). Right (task_nodes x) job.states p.node o) (some_task r.task task (task_at tasks p.slot) r.its_task h.its_task)
        (subst (λ (x : Job). Right (task_nodes r.task) x.states p.node o) (some_job r.job job (job_at jobs p.slot) r.its_job h.its_job) r.right)

    pub right_says : (held : Option OpenJob) (r : Bool) → OpenAt tasks jobs p.slot held → (held ≡ None → r ≡ false)
        → ((x : OpenJob) → held ≡ Some x → Says r (Right (task_nodes x.task.now) x.job.now.states p.node o)) → Says r (RightAt tasks jobs p o)
    right_says None r none clear found =
        says_no r (clear refl) (λ h. none h.task h.job (record { its_task = h.its_task; its_job = h.its_job }))
    right_says (Some x) r holds clear found =
        says_like r (right_at x.task.now x.job.now holds) (right_there x.task.now x.job.now holds) (found x refl)

    -- a slot past the tables holds nothing
    pub past_wrong : length tasks ≤ p.slot → RightAt tasks jobs p o → ⊥
    past_wrong l r = none_task r.task (task_at tasks p.slot) r.its_task (get_or_past tasks p.slot None l)

  -- a byte is right for what a core ran just where what it means is
  pub suits : (x : Option Spot) (byte : ℕ) → RightFor tasks jobs x byte → Suits tasks jobs x (meant byte)
  suits None zero e = refl
  suits None (suc b) e = absurd (let z : ◌≡◌ {A = ℕ} (suc b) 0 = e in omega arith)
  suits (Some p) byte r = r

  pub right_for : (x : Option Spot) (byte : ℕ) → Suits tasks jobs x (meant byte) → RightFor tasks jobs x byte
  right_for None zero e = refl
  right_for None (suc b) e = cc
  right_for (Some p) byte r = r

  -- what is right on all cores is right for the job of each slot
  module _ (spots : List (Option Spot)) (outcomes : List ℕ) (all : AllRight tasks jobs spots outcomes) (s : ℕ) where
    pub rights : (t : Task) (j : Job) → task_at tasks s ≡ Some t → job_at jobs s ≡ Some j → RightInSlot (task_nodes t) j.states s spots outcomes
    rights t j et ej c n l e =
        right_there (spot s n) (meant (byte_at outcomes c)) t j (record { its_task = et; its_job = ej })
        (subst (λ (x : Option Spot). RightFor tasks jobs x (byte_at outcomes c)) e (all c l))
