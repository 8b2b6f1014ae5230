-- The right side rises with the bounds, so bounds that are reached from below stay below every solution.
use Rattle.std.proofs.Common.{◌≡◌, ℕ, ◌+◌, ◌-◌, ◌*◌, ◌<◌, ◌≤◌, Bool, List, length, set, ℤ, Some, None, Option, sym, refl, ap, ◌∙◌, subst, inl, inr, mul-le-mul, mul-le-mul_left, arith}
use Rattle.std.proofs.lemmas.Bool.{cases_eq}
use Rattle.std.proofs.lemmas.List.{get_or-set_same, get_or-set_other, length-set, get_or-map, length-map}
use Rattle.order.specs.declared.Party.{Party}
use Rattle.order.specs.Laws.{Orderly, Lawful, AtMost}
use Rattle.bounds.specs.declared.plan.Demand.{Demand}
use Rattle.bounds.specs.declared.plan.Plan.{Plan}
use Rattle.bounds.specs.Equation.{div_ceil, Caps, capped, held, bound, party_of, cap_of, work_ahead_of, share_apart, interference, spread, right_side, first_bound_of, first_bounds_of, Solves, Least, Reached, Passes}
use Rattle.bounds.specs.Equation.Reached.{begun, raised}
use Rattle.bounds.specs.Steps.{SettledAt, weight}
use Rattle.bounds.proofs.Rounding.{up_mono}
use Rattle.bounds.proofs.Sums.{sum_mono, sum_grows, sum_small}
use Rattle.bounds.proofs.Sides.{none_some, share_other, share_own}

-- each task's bound lies between 1 and its deadline
pub record InRange (p : Plan) (R : List ℕ) : Type 0 where
  pub low : (k : ℕ) (d : Demand) → k < 16 → held p k ≡ Some d → 1 ≤ bound R k
  pub high : (k : ℕ) (d : Demand) → k < 16 → held p k ≡ Some d → bound R k ≤ d.deadline

-- the bounds are at most their right sides, and at most any that solve
pub record Rising (most : Caps) (p : Plan) (R : List ℕ) : Type 0 where
  pub sized : length R ≡ 16
  pub empty : (k : ℕ) → k < 16 → held p k ≡ None → bound R k ≡ 0
  pub range : InRange p R
  pub below_side : (k : ℕ) (d : Demand) → k < 16 → held p k ≡ Some d → bound R k ≤ right_side most p R k d
  pub below_all : (S : List ℕ) → Solves most p S → (k : ℕ) → k < 16 → bound R k ≤ bound S k

abbrev pub Below : List ℕ → List ℕ → Type 0
Below R S = (i : ℕ) → i < 16 → bound R i ≤ bound S i

capped_mono : (a b : Option ℕ) (m n : ℕ) → AtMost a b → m ≤ n → capped a m ≤ capped b n
capped_mono None None m n h k = k
capped_mono None (Some c) m n h k = absurd h
capped_mono (Some b) None m n h k = omega arith
capped_mono (Some b) (Some c) m n h k = omega arith

pub spread_mono : (m L W x y : ℕ) → 1 ≤ m → x ≤ y → spread m L W x ≤ spread m L W y
spread_mono m L W x y h k = omega (arith, up_mono ((W - L) + x) ((W - L) + y) m h (omega arith))

jobs_mono : (m T W x y : ℕ) → 1 ≤ m → 1 ≤ T → x ≤ y → div_ceil (m * x - W) (m * T) ≤ div_ceil (m * y - W) (m * T)
jobs_mono m T W x y hm hT h =
    let p : 1 * 1 ≤ m * T = mul-le-mul hm hT in
    let q : m * x ≤ m * y = mul-le-mul_left m h in
    up_mono (m * x - W) (m * y - W) (m * T) (omega arith) (omega arith)

work_mono : (m W T : ℕ) (a b : Option ℕ) (x y : ℕ) → 1 ≤ m → 1 ≤ T → AtMost a b → x ≤ y → work_ahead_of m W T a x ≤ work_ahead_of m W T b y
work_mono m W T a b x y hm hT c h =
    mul-le-mul_left W (capped_mono a b (div_ceil (m * x - W) (m * T)) (div_ceil (m * y - W) (m * T)) c (jobs_mono m T W x y hm hT h))

lawful : (k : ℕ) (d : Demand) → k < 16 → Lawful (party_of k d)
lawful k d l = record { slotted = l; some_deadline = omega arith; in_period = omega arith; in_range = omega arith }

side_some : (most : Caps) (p : Plan) (R : List ℕ) (k : ℕ) (d : Demand) → 1 ≤ right_side most p R k d
side_some most p R k d = some d.longest (div_ceil ((d.total - d.longest) + interference (cap_of most R k d) p R k) p.cores) (omega arith)
  where
    some : (L x : ℕ) → 1 ≤ L → 1 ≤ L + x
    some L x h = omega arith

solves_range : (most : Caps) (p : Plan) (S : List ℕ) → Solves most p S → InRange p S
solves_range most p S s = record { low = λ k d l h. omega (arith, s.equal k d l h, side_some most p S k d); high = s.kept }

begun_rising : (most : Caps) (p : Plan) → Rising most p (first_bounds_of p)
begun_rising most p =
    record {
      sized = length-map p.slots first_bound_of ∙ p.slotted;
      empty = at_none;
      range = record { low = λ k d l h. omega (arith, at_some k d l h); high = λ k d l h. omega (arith, at_some k d l h) };
      below_side = λ k d l h. omega (arith, at_some k d l h, side_some most p (first_bounds_of p) k d);
      below_all = λ S s k l. by S s k l (held p k) refl;
    }
  where
    at : (k : ℕ) (o : Option Demand) → k < 16 → held p k ≡ o → bound (first_bounds_of p) k ≡ first_bound_of o
    at k o l h = get_or-map first_bound_of p.slots k None 0 (omega (arith, p.slotted)) ∙ ap first_bound_of h

    at_none : (k : ℕ) → k < 16 → held p k ≡ None → bound (first_bounds_of p) k ≡ 0
    at_none k l h = at k None l h

    at_some : (k : ℕ) (d : Demand) → k < 16 → held p k ≡ Some d → bound (first_bounds_of p) k ≡ 1
    at_some k d l h = at k (Some d) l h

    by : (S : List ℕ) → Solves most p S → (k : ℕ) → k < 16 → (o : Option Demand) → held p k ≡ o → bound (first_bounds_of p) k ≤ bound S k
    by S s k l None h = omega (arith, at_none k l h)
    by S s k l (Some d) h = omega (arith, at_some k d l h, s.equal k d l h, side_some most p S k d)

module _ (goes : Party → Party → ℤ → Bool) (most : Caps) (laws : Orderly goes most) (p : Plan) where
  share_mono : (R S : List ℕ) → InRange p R → InRange p S → Below R S → (k : ℕ) (d : Demand) → k < 16 → (i : ℕ) → i < 16
      → share_apart (cap_of most R k d) p R k i ≤ share_apart (cap_of most S k d) p S k i
  share_mono R S in_r in_s le k d lk i li =
      elim (cases_eq i k) [
        | inl e ↦ omega (arith, share_own (cap_of most R k d) p R k i e, share_own (cap_of most S k d) p S k i e)
        | inr ne ↦ by ne (held p i) refl
      ]
    where
      by : (i ≡ k → ⊥) → (o : Option Demand) → held p i ≡ o → share_apart (cap_of most R k d) p R k i ≤ share_apart (cap_of most S k d) p S k i
      by ne None h = omega (arith, share_other (cap_of most R k d) p R k i None ne h, share_other (cap_of most S k d) p S k i None ne h)
      by ne (Some e) h =
          let c =
          laws.rising (party_of i e) (party_of k d) (lawful i e li) (lawful k d lk) ne (bound R i) (bound S i) (in_r.low i e li h) (le i li)
          (in_s.high i e li h) in
          let w =
          work_mono p.cores e.total e.period (cap_of most R k d i e) (cap_of most S k d i e) (bound R k + bound R i) (bound S k + bound S i)
          (omega arith) (omega arith) c (omega (arith, le i li, le k lk)) in
          omega (arith, w, share_other (cap_of most R k d) p R k i (Some e) ne h, share_other (cap_of most S k d) p S k i (Some e) ne h)

  side_mono : (R S : List ℕ) → InRange p R → InRange p S → Below R S → (k : ℕ) (d : Demand) → k < 16 → right_side most p R k d ≤ right_side most p S k d
  side_mono R S in_r in_s le k d lk =
      spread_mono p.cores d.longest d.total (interference (cap_of most R k d) p R k) (interference (cap_of most S k d) p S k) (omega arith)
      (sum_mono 16 (share_apart (cap_of most R k d) p R k) (share_apart (cap_of most S k d) p S k) (share_mono R S in_r in_s le k d lk))

  -- no solution has a bound below the right side of rising bounds
  below_solved : (R S : List ℕ) → Rising most p R → Solves most p S → (k : ℕ) (d : Demand) → k < 16 → held p k ≡ Some d → right_side most p R k d ≤ bound S k
  below_solved R S r s k d l h =
      omega (arith, s.equal k d l h, side_mono R S r.range (solves_range most p S s) (r.below_all S s) k d l)

  raised_rising : (R : List ℕ) → Rising most p R → (k : ℕ) (d : Demand) (v : ℕ) → k < 16 → held p k ≡ Some d → v ≡ right_side most p R k d
      → v ≤ d.deadline → Rising most p (set R k v)
  raised_rising R r k d v l h is fits =
      record {
        sized = length-set R k v ∙ r.sized;
        empty = λ j lj hj.
            elim (cases_eq j k) [ inl e ↦ absurd (none_some (held p j) hj (ap (held p) e ∙ h)) | inr ne ↦ other j ne ∙ r.empty j lj hj ];
        range = in_range;
        below_side = λ j e lj hj.
            elim (cases_eq j k) [
              | inl q ↦ omega (arith, same_side j e hj q, side_mono R (set R k v) r.range in_range grown j e lj)
              | inr ne ↦ omega (arith, other j ne, r.below_side j e lj hj, side_mono R (set R k v) r.range in_range grown j e lj)
            ];
        below_all = λ S s j lj.
            elim (cases_eq j k) [
              | inl q ↦ omega (arith, ap (bound (set R k v)) q, ap (bound S) q, here, below_solved R S r s k d l h)
              | inr ne ↦ omega (arith, other j ne, r.below_all S s j lj)
            ];
      }
    where
      here : bound (set R k v) k ≡ v
      here = get_or-set_same R k v 0 (omega (arith, r.sized))

      other : (j : ℕ) → (j ≡ k → ⊥) → bound (set R k v) j ≡ bound R j
      other j ne = get_or-set_other R k j v 0 ne

      grown : Below R (set R k v)
      grown j lj =
          elim (cases_eq j k) [
            | inl e ↦ omega (arith, ap (bound R) e, ap (bound (set R k v)) e, here, r.below_side k d l h)
            | inr ne ↦ omega (arith, other j ne)
          ]

      same_task : (j : ℕ) (e : Demand) → held p j ≡ Some e → j ≡ k → e ≡ d
      same_task j e hj q = let z : held p j ≡ held p k = ap (held p) q in cc

      in_range : InRange p (set R k v)
      in_range =
          record {
            low = λ j e lj hj. omega (arith, grown j lj, r.range.low j e lj hj);
            high = λ j e lj hj.
                elim (cases_eq j k) [
                  | inl q ↦ omega (arith, ap (bound (set R k v)) q, here, ap (λ (x : Demand). x.deadline) (same_task j e hj q))
                  | inr ne ↦ omega (arith, other j ne, r.range.high j e lj hj)
                ];
          }

      same_side : (j : ℕ) (e : Demand) → held p j ≡ Some e → j ≡ k → bound (set R k v) j ≡ right_side most p R j e
      same_side j e hj q =
          ap (bound (set R k v)) q ∙ here ∙ is ∙ sym (ap (λ (x : ℕ). right_side most p R x e) q ∙ ap (right_side most p R k) (same_task j e hj q))

  pub reached_rising : (R : List ℕ) → Reached most p R → Rising most p R
  reached_rising R (begun _ e) = subst (λ (x : List ℕ). Rising most p x) (sym e) (begun_rising most p)
  reached_rising S (raised R _ k d r l h fits e) =
      subst (λ (x : List ℕ). Rising most p x) (sym e) (raised_rising R (reached_rising R r) k d (right_side most p R k d) l h refl fits)

  pub passes_none : (k : ℕ) → Passes most p k → (S : List ℕ) → Solves most p S → ⊥
  passes_none k f S s =
      omega (
        arith,
        f.past,
        below_solved f.bounds S (reached_rising f.bounds f.reached) s k f.task f.within f.there,
        s.kept k f.task f.within f.there,
      )

  pub weight_small : (R : List ℕ) → Reached most p R → weight R ≤ 16000000
  weight_small R reached = omega (arith, sum_small 16 1000000 (bound R) (λ i l. by i l (held p i) refl))
    where
      r : Rising most p R
      r = reached_rising R reached

      by : (i : ℕ) → i < 16 → (o : Option Demand) → held p i ≡ o → bound R i ≤ 1000000
      by i l None h = omega (arith, r.empty i l h)
      by i l (Some d) h = omega (arith, r.range.high i d l h)

  pub weight_grows : (R : List ℕ) → Reached most p R → (k v : ℕ) → k < 16 → bound R k < v → weight R < weight (set R k v)
  weight_grows R reached k v l more = sum_grows 16 k (bound R) (bound (set R k v)) grown l (omega (arith, here))
    where
      here : bound (set R k v) k ≡ v
      here = get_or-set_same R k v 0 (omega (arith, (reached_rising R reached).sized))

      grown : Below R (set R k v)
      grown j lj =
          elim (cases_eq j k) [
            | inl e ↦ omega (arith, ap (bound R) e, ap (bound (set R k v)) e, here)
            | inr ne ↦ omega (arith, get_or-set_other R k j v 0 ne)
          ]

  -- bounds that are reached and need no raising are the least
  pub settled_least : (R : List ℕ) → Reached most p R → ((k : ℕ) → k < 16 → SettledAt most p R k) → Least most p R
  settled_least R reached s =
      record {
        solves = record {
          sized = r.sized;
          empty = r.empty;
          equal = λ k d l h. omega (arith, s k l d h, r.below_side k d l h);
          kept = r.range.high;
        };
        least = r.below_all;
      }
    where
      r : Rising most p R
      r = reached_rising R reached
