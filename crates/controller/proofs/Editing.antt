-- A task enters, leaves or is retimed while no job is open: what holds between calls goes on to hold.
use Rattle.std.proofs.Common.{◌≡◌, ℕ, ◌<◌, ◌≤◌, Bool, true, false, cond, eqb, ◌≢◌, ◌⊎◌, List, [], length, get_or, set, is_some, Some, None, Ok, Option, sym, refl, ap, ◌∙◌, subst, inl, inr, arith, get_or-set_other, get_or-set_same}
use Rattle.std.proofs.lemmas.List.{get_or_default}
use Rattle.std.proofs.lemmas.Bool.{cases_eq, cases_lt}
use Rattle.std.proofs.lemmas.Bool.Decides.{nat_tests}
use Rattle.std.specs.List.{AllByRecursion}
use Rattle.table.specs.declared.records.Table.{Table}
use Rattle.task.specs.declared.held.Task.{Task}
use Rattle.bounds.specs.declared.plan.Demand.{Demand}
use Rattle.bounds.specs.Equation.{bound, held}
use Rattle.admission.specs.Same.{SlotDemands}
use Rattle.timing.specs.Run.{Slot, idle, busy}
use Rattle.response.specs.Jobs.{JobState}
use Rattle.dispatch.specs.declared.job.Job.{Job}
use Rattle.dispatch.specs.Tables.{job_at}
use Rattle.controller.specs.declared.tables.Tables.{Tables}
use Rattle.controller.specs.Book.{ToldTask, HoldsTold, Line, EndedInTime, entered, on_add, on_remove, on_retime}
use Rattle.controller.specs.Calls.{Add, Remove, Retime}
use Rattle.controller.specs.Effects.{Edited, Put, Added, Removed, Retimed}
use Rattle.controller.specs.Promise.{Exact, AsTold}
use Rattle.order.specs.Laws.{Meaning}
use Rattle.controller.specs.State.{table_of, task_in, deadline, NoneOpen}
use Rattle.controller.proofs.Deadlines.{deadline_is_told}
use Rattle.controller.proofs.Epoch.{SameSlot, Parts, parts, waited_at, EpochBy, Sound}

pub some_not_none : {X : Type 0} {x : X} {o : Option X} → o ≡ Some x → o ≡ None → ⊥
some_not_none e f = let z : ◌≡◌ {A = ℕ} 0 1 = cc in omega arith

-- what is nothing that there is, is none
pub none_there : {X : Type 0} (o : Option X) → ((x : X) × (o ≡ Some x) → ⊥) → o ≡ None
none_there None n = refl
none_there (Some x) n = absurd (n (x, refl))

pub one_some : {X : Type 0} {x y : X} {o : Option X} → o ≡ Some x → o ≡ Some y → x ≡ y
one_some e f = cc

pub here_not : (a b : ℕ) → a ≢ b → eqb a b ≡ false
here_not a b h = grind (arith, nat_tests)

pub here_same : (a b : ℕ) → a ≡ b → eqb a b ≡ true
here_same a b h = grind (arith, nat_tests)

-- where no job is open, the book has none open
pub no_entries : (o : Meaning) (x : Parts) (b : ℕ → Line) (bs : Option (List ℕ)) → EpochBy o x b bs → NoneOpen x.jobs
    → (s : ℕ) → s < 16 → (b s).unended ≡ []
no_entries o x b None rest none s l = (rest s l).no_entry
no_entries o x b (Some R) running none s l =
    go (running.state.slot s) (running.slots s l)
  where
    go : (y : Slot JobState) → SameSlot x.plan s (bound R s) (b s).deadline running.state.now y (job_at x.jobs s) (waited_at x.waited s) (b s).unended
        → (b s).unended ≡ []
    go (idle past) m = m.1
    go (busy r spent j past) m = absurd (some_not_none m.0.there (none s l))

-- a place of a list with another entry at s
module _ {X : Type 0} (xs ys : List X) (s : ℕ) (x d : X) (e : ys ≡ set xs s x) where
  pub at_new : s < length xs → get_or ys s d ≡ x
  at_new l = ap (λ (l : List X). get_or l s d) e ∙ get_or-set_same xs s x d l

  pub at_other : (k : ℕ) → k ≢ s → get_or ys k d ≡ get_or xs k d
  at_other k n = ap (λ (l : List X). get_or l k d) e ∙ get_or-set_other xs s k x d n

module _ (o : Meaning) (t u : Tables) (b b' : ℕ → Line) (s : ℕ) (task : Option Task) (demand : Option Demand)
    (sound : Sound o t b) (none : NoneOpen t.board.jobs) (no_tick : t.tick ≡ None) (l : s < 16) (edited : Edited t s task demand u) where
  edited_exact : SlotDemands (table_of task) demand → Exact u
  edited_exact new k m = elim (cases_eq k s) [
    | inl e ↦ subst (λ (x : ℕ). SlotDemands (table_of (task_in u x)) (held u.plan x)) (sym e) (
        subst (λ (x : Option Task). SlotDemands (table_of x) (held u.plan s)) (sym (at_new t.board.tasks u.board.tasks s task None edited.tasks (omega (arith, t.sized.0))))
        (subst (SlotDemands (table_of task)) (sym (at_new t.plan.slots u.plan.slots s demand None edited.demands (omega (arith, t.plan.slotted)))) new)
        )
    | inr n ↦ subst (λ (x : Option Task). SlotDemands (table_of x) (held u.plan k)) (sym (at_other t.board.tasks u.board.tasks s task None edited.tasks k n))
        (subst (SlotDemands (table_of (task_in t k))) (sym (at_other t.plan.slots u.plan.slots s demand None edited.demands k n)) (sound.exact k m))
  ]

  edited_told : HoldsTold (b' s).task (table_of task) → ((k : ℕ) → k ≢ s → (b' k).task ≡ (b k).task) → AsTold u b'
  edited_told new other k m = elim (cases_eq k s) [
    | inl e ↦ subst (λ (x : ℕ). HoldsTold (b' x).task (table_of (task_in u x))) (sym e)
        (subst (λ (x : Option Task). HoldsTold (b' s).task (table_of x)) (sym (at_new t.board.tasks u.board.tasks s task None edited.tasks (omega (arith, t.sized.0)))) new)
    | inr n ↦ subst (λ (x : ToldTask). HoldsTold x (table_of (task_in u k))) (sym (other k n))
        (subst (λ (x : Option Task). HoldsTold (b k).task (table_of x)) (sym (at_other t.board.tasks u.board.tasks s task None edited.tasks k n)) (sound.as_told k m))
  ]

  pub edited_sound : SlotDemands (table_of task) demand → HoldsTold (b' s).task (table_of task) → ((k : ℕ) → k ≢ s → (b' k).task ≡ (b k).task)
      → ((τ : Task) → task ≡ Some τ → (b' s).deadline ≡ deadline τ) → ((k : ℕ) → k ≢ s → (b' k).deadline ≡ (b k).deadline) → ((k : ℕ) → (b' k).unended ≡ (b k).unended) → ((k : ℕ) → (b' k).ended ≡ (b k).ended)
      → Sound o u b'
  edited_sound new told-new told-other due-new due-other same-open same_ended =
      record {
        exact = edited_exact new;
        as_told = edited_told told-new told-other;
        due = λ k τ m e. elim (cases_eq k s) [
          | inl h ↦ subst (λ (x : ℕ). (b' x).deadline ≡ deadline τ) (sym h) (
              due-new τ (sym (at_new t.board.tasks u.board.tasks s task None edited.tasks (omega (arith, t.sized.0))) ∙ subst (λ (x : ℕ). task_in u x ≡ Some τ) h e)
              )
          | inr n ↦ due-other k n ∙ sound.due k τ m (sym (at_other t.board.tasks u.board.tasks s task None edited.tasks k n) ∙ e)
        ];
        ended = λ k m. subst (AllByRecursion EndedInTime) (sym (same_ended k)) (sound.ended k m);
        epoch = subst (EpochBy o (parts u) b') (sym edited.no_bounds) (λ k m. record {
          no_job = ap (λ (js : List (Option Job)). job_at js k) edited.same_jobs ∙ none k m;
          no_entry = same-open k ∙ no_entries o (parts t) b t.bounds sound.epoch none k m;
        });
        ticked = λ spots e. absurd (some_not_none e (edited.same_tick ∙ no_tick));
      }

module _ (o : Meaning) (t u : Tables) (b : ℕ → Line) (sound : Sound o t b) (none : NoneOpen t.board.jobs) (no_tick : t.tick ≡ None) (s : ℕ) (l : s < 16) where
  -- what an edit writes into the book: the task and its deadline, of this slot only
  module _ (line : Line → Line) (opens : (l : Line) → (line l).unended ≡ l.unended) (ends : (l : Line) → (line l).ended ≡ l.ended) where
    abbrev b' : ℕ → Line
    b' k = cond (eqb k s) (line (b k)) (b k)

    here : b' s ≡ line (b s)
    here = ap (λ (x : Bool). cond x (line (b s)) (b s)) (here_same s s refl)

    elsewhere : (k : ℕ) → k ≢ s → b' k ≡ b k
    elsewhere k n = ap (λ (x : Bool). cond x (line (b k)) (b k)) (here_not k s n)

    either : (k : ℕ) (x : Bool) → ((cond x (line (b k)) (b k)).unended ≡ (b k).unended) × ((cond x (line (b k)) (b k)).ended ≡ (b k).ended)
    either k true = (opens (b k), ends (b k))
    either k false = (refl, refl)

    written_sound : (task : Option Task) (demand : Option Demand) → Edited t s task demand u → SlotDemands (table_of task) demand
        → HoldsTold (line (b s)).task (table_of task) → ((τ : Task) → task ≡ Some τ → (line (b s)).deadline ≡ deadline τ) → Sound o u b'
    written_sound task demand edited new told due =
        edited_sound o t u b b' s task demand sound none no_tick l edited new
        (subst (λ (x : Line). HoldsTold x.task (table_of task)) (sym here) told) (λ k n. ap (λ (x : Line). x.task) (elsewhere k n))
        (λ τ e. ap (λ (x : Line). x.deadline) here ∙ due τ e) (λ k n. ap (λ (x : Line). x.deadline) (elsewhere k n))
        (λ k. (either k (eqb k s)).0) (λ k. (either k (eqb k s)).1)

  pub added_sound : (bytes : List ℕ) (a : ℕ × ℕ) → Added t s bytes a u → Sound o u (λ k. entered (Add s bytes) (Ok a) k (b k))
  added_sound bytes a add =
      written_sound (on_add bytes (Ok a)) (λ l. refl) (λ l. refl) (Some add.task) (Some add.put.demand) add.put.edited add.put.exact
      (add.task.table, add.described, refl)
      (λ τ e. deadline_is_told bytes add.task.table add.described ∙ ap deadline (one_some refl e))

  pub removed_sound : (a : Unit {0}) → Removed t s u → Sound o u (λ k. entered (Remove s) (Ok a) k (b k))
  removed_sound a rem =
      written_sound (on_remove (Ok a)) (λ l. refl) (λ l. refl) None None rem.edited tt refl (λ τ e. absurd (some_not_none e refl))

  pub retimed_sound : (v x : ℕ) (a : ℕ × ℕ) → Retimed t s v x a u → Sound o u (λ k. entered (Retime s v x) (Ok a) k (b k))
  retimed_sound v x a re =
      written_sound (on_retime v x (Ok a)) (λ l. refl) (λ l. refl) (Some re.task) (Some re.put.demand) re.put.edited re.put.exact
      (re.before.table, subst (λ (y : Option Task). HoldsTold (b s).task (table_of y)) re.held (sound.as_told s l), ap Some re.one_time)
      (λ τ e. sound.due s re.before l re.held ∙ ap (λ (y : Table). y.timing.deadline) (sym re.one_time) ∙ ap deadline (one_some refl e))

-- a put speaks of the slot by its number, and not of what has been waited
pub put_elsewhere : (t t' u : Tables) (s s' : ℕ) (task : Task) (a : ℕ × ℕ) → s ≡ s' → t'.board.tasks ≡ t.board.tasks → t'.plan ≡ t.plan → t'.board.jobs ≡ t.board.jobs → t'.tick ≡ t.tick
    → Put t' s task a u → Put t s' task a u
put_elsewhere t t' u s s' task a e f g h k p =
    subst (λ (x : ℕ). Put t x task a u) e (record {
      demand = p.demand;
      exact = p.exact;
      answers_length = p.answers_length;
      answers_total = p.answers_total;
      edited = record {
        tasks = p.edited.tasks ∙ ap (λ xs. set xs s (Some task)) f;
        demands = p.edited.demands ∙ ap (λ x. set x.slots s (Some p.demand)) g;
        no_bounds = p.edited.no_bounds;
        same_cores = p.edited.same_cores ∙ ap (λ x. x.cores) g;
        same_jobs = p.edited.same_jobs ∙ h;
        same_tick = p.edited.same_tick ∙ k;
      };
    })

-- an element by its place, whatever stands for those past the end
pub read_at : {X : Type 0} (xs : List X) (i j : ℕ) (d e x : X) → i ≡ j → i < length xs → get_or xs i d ≡ x → get_or xs j e ≡ x
read_at xs i j d e x p l h = subst (λ (k : ℕ). get_or xs k e ≡ x) p (get_or_default xs i e d l ∙ h)

-- what is not within the range of a time is 0 or past it
pub not_a_time : (x : ℕ) → (1 ≤ x → x ≤ 65535 → ⊥) → (x ≡ 0) ⊎ (65535 < x)
not_a_time x n = elim (cases_lt 65535 x) [
  | inl l ↦ inr l
  | inr l ↦ elim (cases_lt 0 x) [ inl m ↦ absurd (n m l) | inr m ↦ inl (omega arith) ]
]

pub not_some : {X : Type 0} (o : Option X) → false ≡ is_some o → o ≡ None
not_some None e = refl
not_some (Some x) e = absurd (let z : ◌≡◌ {A = ℕ} 0 1 = cc in omega arith)
