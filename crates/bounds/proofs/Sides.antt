-- The right side, slot by slot.
use Rattle.std.proofs.Common.{◌≡◌, ℕ, ◌+◌, ◌<◌, ◌≤◌, Bool, List, Some, None, Option, sym, refl, ap, ◌∙◌, inl, inr, arith}
use Rattle.std.proofs.lemmas.Bool.{cases_eq, cases_lt, ne_eqb, eq-eqb}
use Rattle.std.proofs.lemmas.List.{get_or_past}
use Rattle.std.specs.Option.{is_some}
use Rattle.sets.specs.Tests.{Says}
use Rattle.sets.proofs.Says.{says_yes, says_no}
use Rattle.bounds.specs.declared.plan.Demand.{Demand}
use Rattle.bounds.specs.declared.plan.Plan.{Plan}
use Rattle.bounds.specs.Equation.{held, bound, share, share_apart, spread, side}
use Rattle.bounds.specs.Steps.{Holds}
use Rattle.bounds.proofs.Sums.{sum_same}

pub held_past : (p : Plan) (i : ℕ) → 16 ≤ i → held p i ≡ None
held_past p i l = get_or_past p.slots i None (omega arith)

pub none_some : {d : Demand} (o : Option Demand) → o ≡ None → o ≡ Some d → ⊥
none_some o e f = let z : ◌≡◌ {A = ℕ} 0 1 = cc in omega arith

pub in_plan : (p : Plan) (k : ℕ) (d : Demand) → held p k ≡ Some d → k < 16
in_plan p k d h = elim (cases_lt k 16) [ inl l ↦ l | inr l ↦ absurd (none_some (held p k) (held_past p k l) h) ]

module _ (cap : ℕ → Demand → Option ℕ) (p : Plan) (R : List ℕ) (k i : ℕ) where
  pub share_other : (o : Option Demand) → (i ≡ k → ⊥) → held p i ≡ o → share_apart cap p R k i ≡ share p.cores (cap i) (bound R k + bound R i) o
  share_other o ne h = rw (ne_eqb i k ne, h)

  pub share_own : i ≡ k → share_apart cap p R k i ≡ 0
  share_own e = rw (eq-eqb i k e)

-- equal caps on the others' tasks give equal sides
module _ (cap also : ℕ → Demand → Option ℕ) (p : Plan) (R : List ℕ) (k : ℕ)
    (same : (i : ℕ) (e : Demand) → i < 16 → (i ≡ k → ⊥) → held p i ≡ Some e → cap i e ≡ also i e) where
  share_same : (i : ℕ) → i < 16 → share_apart cap p R k i ≡ share_apart also p R k i
  share_same i l = elim (cases_eq i k) [ inl e ↦ share_own cap p R k i e ∙ sym (share_own also p R k i e) | inr ne ↦ by ne (held p i) refl ]
    where
      by : (i ≡ k → ⊥) → (o : Option Demand) → held p i ≡ o → share_apart cap p R k i ≡ share_apart also p R k i
      by ne None h = share_other cap p R k i None ne h ∙ sym (share_other also p R k i None ne h)
      by ne (Some e) h =
          share_other cap p R k i (Some e) ne h
          ∙ ap (λ (c : Option ℕ). share p.cores (λ _. c) (bound R k + bound R i) (Some e)) (same i e l ne h)
          ∙ sym (share_other also p R k i (Some e) ne h)

  pub side_same : (d : Demand) → side cap p R k d ≡ side also p R k d
  side_same d = ap (spread p.cores d.longest d.total) (sum_same 16 (share_apart cap p R k) (share_apart also p R k) share_same)

-- the test tells whether the slot holds a task
pub some_says : (p : Plan) (k : ℕ) (b : Bool) → k < 16 → b ≡ is_some (held p k) → Says b (Holds p k)
some_says p k b l e = by (held p k) refl b e
  where
    by : (o : Option Demand) → held p k ≡ o → (b : Bool) → b ≡ is_some (held p k) → Says b (Holds p k)
    by (Some d) h b e = says_yes b (e ∙ ap is_some h) (l, (d, h))
    by None h b e = says_no b (e ∙ ap is_some h) (λ q. none_some (held p k) h q.1.1)
