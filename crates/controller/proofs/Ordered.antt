-- An order that keeps its laws puts the open jobs in order.
use Rattle.std.proofs.Common.{◌≡◌, ℕ, ◌<◌, true, ◌⊎◌, List, ℤ, pos, ◌+ℤ◌, ◌-ℤ◌, neg_ℤ, Option, sym, subst, inl, inr, arith}
use Rattle.std.proofs.lemmas.Int.{ints}
use Rattle.std.proofs.lemmas.Bool.{cases_eq}
use Rattle.order.specs.Laws.{Lawful}
use Rattle.task.specs.declared.held.Task.{Task}
use Rattle.task.proofs.Recovered.{lawful_task}
use Rattle.dispatch.specs.declared.job.Job.{Job}
use Rattle.dispatch.specs.Placing.{HasReady, Orderly}
use Rattle.dispatch.specs.Tables.{ReadyIn}
use Rattle.order.specs.Laws.{Meaning}
use Rattle.controller.specs.State.{party, GoesFirst, GoesAhead}
use Rattle.controller.proofs.Editing.{one_some}
use Rattle.controller.proofs.InTime.{LawfulOrder}

pub lawful_party : (s : ℕ) (τ : Task) → s < 16 → Lawful (party s τ)
lawful_party s τ l =
    let r = (lawful_task τ.table τ.lawful).in_range.task_in_range in
    record { slotted = l; some_deadline = r.some_deadline; in_period = r.deadline_in_period; in_range = r.short_period }

turned : (a b : ℕ) → neg_ℤ (pos a -ℤ pos b) ≡ pos b -ℤ pos a
turned a b = omega (arith, ints)

joined : (a b c : ℕ) → (pos b -ℤ pos a) +ℤ (pos c -ℤ pos b) ≡ pos c -ℤ pos a
joined a b c = omega (arith, ints)

module _ (o : Meaning) (laws : LawfulOrder o) (tasks : List (Option Task)) (jobs : List (Option Job)) where
  abbrev IsReady : ℕ → ℕ → Type 0
  IsReady = ReadyIn tasks jobs

  abbrev IsAhead : ℕ → ℕ → Type 0
  IsAhead = GoesAhead o tasks jobs

  of_two : (i k : ℕ) → HasReady IsReady i → HasReady IsReady k → IsAhead i k ⊎ IsAhead k i
  of_two i k x y = elim (cases_eq i k) [
    | inl e ↦ inl (x.1.slot_below, y.1.slot_below, inl e)
    | inr n ↦ go n (laws.total (party i x.1.task) (party k y.1.task) (lawful_party i x.1.task x.1.slot_below) (lawful_party k y.1.task y.1.slot_below) n
        (pos y.1.job.age -ℤ pos x.1.job.age))
  ]
    where
      go : (i ≡ k → ⊥) → (o.goes (party i x.1.task) (party k y.1.task) (pos y.1.job.age -ℤ pos x.1.job.age) ≡ true)
          ⊎ (o.goes (party k y.1.task) (party i x.1.task) (neg_ℤ (pos y.1.job.age -ℤ pos x.1.job.age)) ≡ true) → IsAhead i k ⊎ IsAhead k i
      go n (inl g) = inl (
        x.1.slot_below,
        y.1.slot_below,
        inr (record {
          first_task = x.1.task;
          first_job = x.1.job;
          other_task = y.1.task;
          other_job = y.1.job;
          first_held = x.1.its_task;
          first_open = x.1.its_job;
          other_held = y.1.its_task;
          other_open = y.1.its_job;
          goes = g;
        }),
      )
      go n (inr g) = inr (
        y.1.slot_below,
        x.1.slot_below,
        inr (record {
          first_task = y.1.task;
          first_job = y.1.job;
          other_task = x.1.task;
          other_job = x.1.job;
          first_held = y.1.its_task;
          first_open = y.1.its_job;
          other_held = x.1.its_task;
          other_open = x.1.its_job;
          goes = subst (λ (d : ℤ). o.goes (party k y.1.task) (party i x.1.task) d ≡ true) (turned y.1.job.age x.1.job.age) g;
        }),
      )

  carried : (i k l : ℕ) → i < 16 → k < 16 → l < 16 → (i ≡ k → ⊥) → (k ≡ l → ⊥) → (i ≡ l → ⊥) → GoesFirst o tasks jobs i k → GoesFirst o tasks jobs k l → GoesFirst o tasks jobs i l
  carried i k l li lk ll ik kl il f g =
      record {
        first_task = f.first_task;
        first_job = f.first_job;
        other_task = g.other_task;
        other_job = g.other_job;
        first_held = f.first_held;
        first_open = f.first_open;
        other_held = g.other_held;
        other_open = g.other_open;
        goes = subst (λ (d : ℤ). o.goes (party i f.first_task) (party l g.other_task) d ≡ true) (joined f.first_job.age g.first_job.age g.other_job.age)
            (laws.transitive (party i f.first_task) (party k g.first_task) (party l g.other_task)
            (lawful_party i f.first_task li) (lawful_party k g.first_task lk) (lawful_party l g.other_task ll) ik kl il
            (pos g.first_job.age -ℤ pos f.first_job.age) (pos g.other_job.age -ℤ pos g.first_job.age) there g.goes);
      }
    where
      there : o.goes (party i f.first_task) (party k g.first_task) (pos g.first_job.age -ℤ pos f.first_job.age) ≡ true
      there =
          subst (λ (j : Job). o.goes (party i f.first_task) (party k g.first_task) (pos j.age -ℤ pos f.first_job.age) ≡ true) (one_some f.other_open g.first_open)
          (subst (λ (τ : Task). o.goes (party i f.first_task) (party k τ) (pos f.other_job.age -ℤ pos f.first_job.age) ≡ true) (one_some f.other_held g.first_held) f.goes)

  passed_on : (i k l : ℕ) → IsAhead i k → IsAhead k l → IsAhead i l
  passed_on i k l x y = (x.0, y.1, go (cases_eq i l) (cases_eq i k) (cases_eq k l) x.2 y.2)
    where
      go : (i ≡ l) ⊎ (i ≡ l → ⊥) → (i ≡ k) ⊎ (i ≡ k → ⊥) → (k ≡ l) ⊎ (k ≡ l → ⊥) → (i ≡ k) ⊎ GoesFirst o tasks jobs i k → (k ≡ l) ⊎ GoesFirst o tasks jobs k l
          → (i ≡ l) ⊎ GoesFirst o tasks jobs i l
      go (inl e) a b f g = inl e
      go (inr n) (inl e) b f g = subst (λ (z : ℕ). (z ≡ l) ⊎ GoesFirst o tasks jobs z l) (sym e) g
      go (inr n) (inr m) (inl e) f g = subst (λ (z : ℕ). (i ≡ z) ⊎ GoesFirst o tasks jobs i z) e f
      go (inr n) (inr m) (inr q) (inl e) g = absurd (m e)
      go (inr n) (inr m) (inr q) (inr f) (inl e) = absurd (q e)
      go (inr n) (inr m) (inr q) (inr f) (inr g) = inr (carried i k l x.0 x.1 y.1 m q n f g)

  pub in_order : Orderly IsReady IsAhead
  in_order = record { total = of_two; passes_on = λ i k l _ _ _ x y. passed_on i k l x y }
