-- Among the open jobs as the order sees them, those go ahead that do among the jobs.
use Rattle.std.proofs.Common.{◌≡◌, ℕ, ◌<◌, true, List, pos, ◌-ℤ◌, Some, None, Option, sym, refl, ap, ◌∙◌, subst, inl, inr, arith}
use Rattle.sets.specs.declared.bit_set.BitSet.{BitSet}
use Rattle.sets.specs.Sets.{Marks}
use Rattle.sets.proofs.Marked.{marks_like}
use Rattle.task.specs.declared.held.Task.{Task}
use Rattle.dispatch.specs.declared.job.Job.{Job}
use Rattle.dispatch.specs.declared.spot.Spot.{Spot}
use Rattle.dispatch.specs.Tables.{task_at, job_at, Places}
use Rattle.dispatch.proofs.Alike.{placed_alike}
use Rattle.controller.specs.declared.precedence.Entrant.{Entrant}
use Rattle.controller.specs.Ahead.{AheadAmong}
use Rattle.order.specs.Laws.{Meaning}
use Rattle.controller.specs.State.{party, GoesAhead}
use Rattle.controller.specs.Steps.{entrant, EntrantsAre, Precedence}
use Rattle.controller.proofs.Epoch.{PlacedBy}

-- who is an entrant has a task and an open job
pub record Entered (s : ℕ) (x : Option Task) (y : Option Job) (e : Entrant) : Type 0 where
  pub task : Task
  pub job : Job
  pub held : x ≡ Some task
  pub open_job : y ≡ Some job
  pub seen_as : e ≡ record { party = party s task; age = job.age }

entered : (s : ℕ) (x : Option Task) (y : Option Job) (e : Entrant) → entrant s x y ≡ Some e → Entered s x y e
entered s None y e h = absurd (let z : ◌≡◌ {A = ℕ} 0 1 = cc in omega arith)
entered s (Some τ) None e h = absurd (let z : ◌≡◌ {A = ℕ} 0 1 = cc in omega arith)
entered s (Some τ) (Some j) e h = record { task = τ; job = j; held = refl; open_job = refl; seen_as = cc }

module _ (o : Meaning) (tasks : List (Option Task)) (jobs : List (Option Job)) (es : List (Option Entrant)) (are : EntrantsAre tasks jobs es) where
  forth : (i k : ℕ) → i < 16 → AheadAmong o.goes es i k → GoesAhead o tasks jobs i k
  forth i k l (m, inl e) = (l, m, inl e)
  forth i k l (m, inr f) =
      let a = entered i (task_at tasks i) (job_at jobs i) f.first (sym (are i l) ∙ f.first_open) in
      let b = entered k (task_at tasks k) (job_at jobs k) f.other (sym (are k m) ∙ f.other_open) in (
        l,
        m,
        inr (record {
          first_task = a.task;
          first_job = a.job;
          other_task = b.task;
          other_job = b.job;
          first_held = a.held;
          first_open = a.open_job;
          other_held = b.held;
          other_open = b.open_job;
          goes = subst (λ (x : Entrant). o.goes (party i a.task) x.party (pos x.age -ℤ pos a.job.age) ≡ true) b.seen_as
              (subst (λ (x : Entrant). o.goes x.party f.other.party (pos f.other.age -ℤ pos x.age) ≡ true) a.seen_as f.goes_first);
        }),
      )

  back : (i k : ℕ) → i < 16 → GoesAhead o tasks jobs i k → AheadAmong o.goes es i k
  back i k l (_, m, inl e) = (m, inl e)
  back i k l (_, m, inr g) = (
    m,
    inr (record {
      first = record { party = party i g.first_task; age = g.first_job.age };
      other = record { party = party k g.other_task; age = g.other_job.age };
      first_open = are i l ∙ ap (λ (x : Option Task). entrant i x (job_at jobs i)) g.first_held ∙ ap (entrant i (Some g.first_task)) g.first_open;
      other_open = are k m ∙ ap (λ (x : Option Task). entrant k x (job_at jobs k)) g.other_held ∙ ap (entrant k (Some g.other_task)) g.other_open;
      goes_first = g.goes;
    }),
  )

  pub row_marks : (i : ℕ) → i < 16 → (s : BitSet) → Marks (AheadAmong o.goes es i) s → Marks (GoesAhead o tasks jobs i) s
  row_marks i l s m = marks_like m (λ k. forth i k l) (λ k. back i k l)

-- what is placed by the sets of jobs behind each is placed by the order
pub placed_by_order : (o : Meaning) (tasks : List (Option Task)) (jobs : List (Option Job)) (ahead : List BitSet) (m : ℕ) (spots : List (Option Spot)) (n : ℕ)
    → Precedence o tasks jobs ahead → Places tasks jobs ahead m spots n → PlacedBy o tasks jobs m spots n
placed_by_order o tasks jobs ahead m spots n marks placed =
    placed_alike (record {
      to = λ s v r. r;
      from = λ s v r. r;
      kept_to = λ s v _ k. k;
      kept_from = λ s v _ k. k;
      ahead_to = λ i k x _ h. (marks i x.1.slot_below).only k h;
      ahead_from = λ i k x _ h. (marks i x.1.slot_below).every k h;
    }) m spots n placed
