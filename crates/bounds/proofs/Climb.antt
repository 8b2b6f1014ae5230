-- The answer for a given plan, computed: the slots to raise are handed over, and what comes out is tested.
use Rattle.std.proofs.Common.{◌≡◌, ℕ, zero, suc, ◌<◌, ◌≤◌, Bool, true, false, cond, ◌&&◌, ltb, leb, List, [], ◌∷◌, set, ℤ, Some, None, Ok, Err, Option, sym, refl, subst, inl, inr, arith}
use Rattle.std.proofs.lemmas.Bool.{cases_eq, ltb-true, leb-true, and_parts}
use Rattle.order.specs.declared.Party.{Party}
use Rattle.order.specs.Laws.{Orderly}
use Rattle.bounds.specs.declared.plan.Demand.{Demand}
use Rattle.bounds.specs.declared.plan.Plan.{Plan}
use Rattle.bounds.specs.declared.rise.Passed.{Passed}
use Rattle.bounds.specs.Equation.{Caps, held, bound, right_side, first_bounds_of, Reached, Passes, Told}
use Rattle.bounds.specs.Equation.Reached.{begun, raised}
use Rattle.bounds.specs.Steps.{SettledAt}
use Rattle.bounds.proofs.Sides.{none_some, in_plan}
use Rattle.bounds.proofs.Rising.{settled_least, passes_none}

abbrev pub raise_at : Caps → Plan → List ℕ → ℕ → Option Demand → List ℕ
raise_at most p R k None = R
raise_at most p R k (Some d) = cond (leb (right_side most p R k d) d.deadline) (set R k (right_side most p R k d)) R

abbrev pub climb : Caps → Plan → List ℕ → List ℕ → List ℕ
climb most p R [] = R
climb most p R (k ∷ ks) = climb most p (raise_at most p R k (held p k)) ks

abbrev pub settled_one : Caps → Plan → List ℕ → ℕ → Option Demand → Bool
settled_one most p R k None = true
settled_one most p R k (Some d) = leb (right_side most p R k d) (bound R k)

abbrev pub settled_below : Caps → Plan → List ℕ → ℕ → Bool
settled_below most p R zero = true
settled_below most p R (suc n) = settled_one most p R n (held p n) && settled_below most p R n

abbrev pub past_at : Caps → Plan → List ℕ → ℕ → Option Demand → Bool
past_at most p R k None = false
past_at most p R k (Some d) = ltb d.deadline (right_side most p R k d)

module _ (most : Caps) (p : Plan) where
  raise_reached : (R : List ℕ) → Reached most p R → (k : ℕ) (o : Option Demand) → held p k ≡ o → Reached most p (raise_at most p R k o)
  raise_reached R r k None h = r
  raise_reached R r k (Some d) h = by (leb (right_side most p R k d) d.deadline) refl
    where
      by : (b : Bool) → leb (right_side most p R k d) d.deadline ≡ b → Reached most p (cond b (set R k (right_side most p R k d)) R)
      by false t = r
      by true t = raised R _ k d r (in_plan p k d h) h (leb-true (right_side most p R k d) d.deadline t) refl

  climb_reached : (R : List ℕ) → Reached most p R → (ks : List ℕ) → Reached most p (climb most p R ks)
  climb_reached R r [] = r
  climb_reached R r (k ∷ ks) = climb_reached (raise_at most p R k (held p k)) (raise_reached R r k (held p k) refl) ks

  one_settled : (R : List ℕ) (k : ℕ) (o : Option Demand) → held p k ≡ o → settled_one most p R k o ≡ true → SettledAt most p R k
  one_settled R k None h t d g = absurd (none_some (held p k) h g)
  one_settled R k (Some e) h t d g =
      let q : e ≡ d = cc in
      subst (λ (x : Demand). right_side most p R k x ≤ bound R k) q (leb-true (right_side most p R k e) (bound R k) t)

  all_settled : (R : List ℕ) (n : ℕ) → settled_below most p R n ≡ true → (k : ℕ) → k < n → SettledAt most p R k
  all_settled R zero t k l = absurd (omega arith)
  all_settled R (suc n) t k l =
      let a = and_parts (settled_one most p R n (held p n)) (settled_below most p R n) t in
      elim (cases_eq k n) [
        | inl e ↦ subst (λ (x : ℕ). SettledAt most p R x) (sym e) (one_settled R n (held p n) refl a.0)
        | inr ne ↦ all_settled R n a.1 k (omega arith)
      ]

  passes : (R : List ℕ) → Reached most p R → (k : ℕ) (o : Option Demand) → held p k ≡ o → past_at most p R k o ≡ true → Passes most p k
  passes R r k None h t = absurd (let z : ◌≡◌ {A = ℕ} 0 1 = cc in omega arith)
  passes R r k (Some d) h t =
      record {
        within = in_plan p k d h;
        task = d;
        there = h;
        bounds = R;
        reached = r;
        past = ltb-true d.deadline (right_side most p R k d) t;
      }

module _ (goes : Party → Party → ℤ → Bool) (most : Caps) (laws : Orderly goes most) (p : Plan) (ks : List ℕ) where
  -- bounds that come out settled are the least
  pub by_climb : (R : List ℕ) → R ≡ climb most p (first_bounds_of p) ks → settled_below most p R 16 ≡ true → Told most p (Ok R)
  by_climb R e t =
      settled_least goes most laws p R (subst (λ (x : List ℕ). Reached most p x) (sym e) (climb_reached most p (first_bounds_of p) (begun _ refl) ks))
      (all_settled most p R 16 t)

  -- where a deadline is passed there are none
  pub by_passing : (e : Passed) → past_at most p (climb most p (first_bounds_of p) ks) e.slot (held p e.slot) ≡ true → Told most p (Err e)
  by_passing e t = (fails, passes_none goes most laws p e.slot fails)
    where
      fails : Passes most p e.slot
      fails =
          passes most p (climb most p (first_bounds_of p) ks) (climb_reached most p (first_bounds_of p) (begun _ refl) ks) e.slot (held p e.slot) refl t
