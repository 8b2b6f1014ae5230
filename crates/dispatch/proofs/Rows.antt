-- Arrays filled slot by slot, and tables of sets by slot.
use Rattle.std.proofs.Common.{◌≡◌, ℕ, ◌+◌, ◌<◌, ◌≤◌, ◌⊎◌, List, Some, None, Option, get_or, zero, suc, sym, refl, subst, inl, inr, arith}
use Rattle.std.proofs.lemmas.Bool.{cases_eq}
use Rattle.std.specs.Array.{IsFromFnResult, IsFromFnResultFrom}
use Rattle.std.specs.Fn.{Called}
use denote.Param.Members.{Mut}
use Rattle.sets.specs.declared.bit_set.BitSet.{BitSet}
use Rattle.sets.specs.Sets.{Has, Marks}
use Rattle.jobs.specs.Job.{Ready}
use Rattle.sets.proofs.Marked.{none_in_zero, marks_like}
use Rattle.task.specs.declared.held.Task.{Task}
use Rattle.dispatch.specs.declared.board.OpenJob.{OpenJob}
use Rattle.dispatch.specs.declared.job.Job.{Job}
use Rattle.dispatch.specs.Search.{RowHas, AheadOfAll, NoneAhead}
use Rattle.dispatch.specs.Tables.{no_number, task_at, job_at, task_nodes, task_arcs, OpenAt, row, ReadyIn, KeptIn}
use Rattle.dispatch.proofs.Alike.{Alike}

pub some_task : (a b : Task) (x : Option Task) → x ≡ Some a → x ≡ Some b → a ≡ b
some_task a b x e f = cc

pub some_job : (a b : Job) (x : Option Job) → x ≡ Some a → x ≡ Some b → a ≡ b
some_job a b x e f = cc

pub below_last : (b c : ℕ) → b < c + 1 → (b ≡ c → ⊥) → b < c
below_last b c l d = grind arith

-- what is at each place of an array is what the function gave there, if it leaves what it holds as it was
module _ {F B : Type 0} {g : Mut F (ℕ × Unit {0}) B} (P : ℕ → B → Type 0) (d : B) (items : List B) {f : F} {m : ℕ} where
  made_from : ((i : ℕ) (y : B) (q : F) → i < m → Called g f (i, tt) y q → (q ≡ f) × P i y) → (n i : ℕ) → i + n ≤ m → IsFromFnResultFrom g f items i n
      → (k : ℕ) → i ≤ k → k < i + n → P k (get_or items k d)
  made_from gives zero i w h k a b = absurd (omega arith)
  made_from gives (suc n) i w (q, y, e, c, rest) k a b = go (gives i y q (omega arith) c) (made_from gives n (i + 1) (omega arith)) (cases_eq k i)
    where
      go : (q ≡ f) × P i y → (IsFromFnResultFrom g f items (i + 1) n → (j : ℕ) → i + 1 ≤ j → j < i + 1 + n → P j (get_or items j d)) → (k ≡ i) ⊎ (k ≡ i → ⊥)
          → P k (get_or items k d)
      go told later (inl same) = subst (λ (j : ℕ). P j (get_or items j d)) (sym same) (subst (λ (x : B). P i x) (sym (e.1 d)) told.1)
      go told later (inr other) =
          later (subst (λ (x : F). IsFromFnResultFrom g x items (i + 1) n) told.0 rest) k (grind arith) (omega arith)

  pub made : IsFromFnResult g f items m → ((i : ℕ) (y : B) (q : F) → i < m → Called g f (i, tt) y q → (q ≡ f) × P i y) → (k : ℕ) → k < m → P k (get_or items k d)
  made all gives k l = made_from gives m 0 (omega arith) all.each k (omega arith) (omega arith)

-- the nodes that are ready in a slot are those of the job that is open there
pub ready_there : (tasks : List (Option Task)) (jobs : List (Option Job)) (s : ℕ) (held : Option OpenJob) (r : BitSet) → s < 16 → OpenAt tasks jobs s held
    → (held ≡ None → r ≡ no_number)
    → ((x : OpenJob) → held ≡ Some x → Marks (Ready (task_nodes x.task.now) (task_arcs x.task.now) x.job.now.states) r)
    → Marks (ReadyIn tasks jobs s) r
ready_there tasks jobs s None r l none empty found =
    subst (λ (x : BitSet). Marks (ReadyIn tasks jobs s) x) (sym (empty refl))
    (record {
      only = λ n h. absurd (none_in_zero no_number refl n h);
      every = λ n h. absurd (none h.task h.job (record { its_task = h.its_task; its_job = h.its_job }));
    })
ready_there tasks jobs s (Some x) r l holds empty found =
    marks_like (found x refl)
    (λ n h. record {
      slot_below = l;
      task = x.task.now;
      its_task = holds.its_task;
      job = x.job.now;
      its_job = holds.its_job;
      ready = h;
    })
    (λ n h.
    let et : h.task ≡ x.task.now = some_task h.task x.task.now (task_at tasks s) h.its_task holds.its_task in
    let ej : h.job ≡ x.job.now = some_job h.job x.job.now (job_at jobs s) h.its_job holds.its_job in
    subst (λ (t : Task). Ready (task_nodes t) (task_arcs t) x.job.now.states n) et
    (subst (λ (j : Job). Ready (task_nodes h.task) (task_arcs h.task) j.states n) ej h.ready))

-- of the slots below m, one more goes ahead of all, or has no node
pub none_ahead_more : (nodes : List BitSet) (slots : BitSet) (ahead : List BitSet) (m : ℕ) → NoneAhead nodes slots ahead m
    → ((v : ℕ) → Has (row nodes m) v → AheadOfAll (row ahead m) slots → ⊥) → NoneAhead nodes slots ahead (m + 1)
none_ahead_more nodes slots ahead m before here k v l h a = go (cases_eq k m)
  where
    go : (k ≡ m) ⊎ (k ≡ m → ⊥) → ⊥
    go (inl e) = here v (subst (λ (x : ℕ). Has (row nodes x) v) e h) (subst (λ (x : ℕ). AheadOfAll (row ahead x) slots) e a)
    go (inr d) = before k v (below_last k m l d) h a

-- the rows of what is ready and of what was kept say the same as the tables
pub rows_alike : (tasks : List (Option Task)) (jobs : List (Option Job)) (ready kept : List BitSet) (ahead : ℕ → ℕ → Type 0)
    → ((s : ℕ) → s < 16 → Marks (ReadyIn tasks jobs s) (row ready s)) → ((s : ℕ) → s < 16 → Marks (KeptIn jobs s) (row kept s))
    → Alike (RowHas ready) (RowHas kept) ahead (ReadyIn tasks jobs) (KeptIn jobs) ahead
rows_alike tasks jobs ready kept ahead r k =
    record {
      to = λ s n h. (r s h.slot_below).only n h.inside;
      from = λ s n h. record { slot_below = h.slot_below; inside = (r s h.slot_below).every n h };
      kept_to = λ s n w h. (k s h.slot_below).only n h.inside;
      kept_from = λ s n w h. record { slot_below = w.slot_below; inside = (k s w.slot_below).every n h };
      ahead_to = λ i j x y h. h;
      ahead_from = λ i j x y h. h;
    }
