-- Bounds that solve a plan are large enough for its system.
use Rattle.std.proofs.Common.{◌≡◌, ℕ, ◌+◌, ◌-◌, ◌*◌, ◌<◌, ◌≤◌, true, cond, eqb, List, Some, None, Option, sym, refl, ap, subst, arith}
use Rattle.order.specs.Laws.{Lawful, Orderly}
use Rattle.bounds.specs.declared.plan.Demand.{Demand}
use Rattle.bounds.specs.declared.plan.Plan.{Plan}
use Rattle.bounds.specs.Equation.{Caps, sum_to, apart_from, work_ahead_of, held, bound, cap_of, share, share_apart, Solves}
use Rattle.bounds.proofs.Enough.{bounds_enough_lem}
use Rattle.bounds.proofs.Sums.{sum_same}
use Rattle.timing.specs.System.{Held, Bounded}
use Rattle.response.specs.System.{Goes, there, number, party_at, numbers_of}

-- a slot that holds a task has a demand
pub demand_there : (o : Option Demand) → there o ≡ true → (d : Demand) × (o ≡ Some d)
demand_there None h = absurd (grind arith)
demand_there (Some d) h = (d, refl)

module _ (goes : Goes) (most : Caps) (p : Plan) (R : List ℕ) where
  -- what holds of each demand of the plan in the slot holds of the slot
  pub of_demand : (P : Option Demand → Type 0) (k : ℕ) → ((d : Demand) → held p k ≡ Some d → P (Some d)) → Held (numbers_of goes most p R) k → P (held p k)
  of_demand P k f h = let d = demand_there (held p k) h.1 in subst P (sym d.1) (f d.0 d.1)

  -- what the task of slot i uses ahead of one job of the task o of slot k
  abbrev uses_ahead : ℕ → Option Demand → ℕ → Option Demand → ℕ
  uses_ahead k o i e =
      cond (there e)
      (work_ahead_of p.cores (number (λ d. d.total) e) (number (λ d. d.period) e) (most (party_at i e) (party_at k o) (bound R i)) (bound R k + bound R i)) 0

  uses_share : (k i : ℕ) (d : Demand) (e : Option Demand) → uses_ahead k (Some d) i e ≡ share p.cores (cap_of most R k d i) (bound R k + bound R i) e
  uses_share k i d None = refl
  uses_share k i d (Some e) = refl

  same_apart : (k i x y : ℕ) → x ≡ y → cond (eqb i k) 0 x ≡ cond (eqb i k) 0 y
  same_apart k i x y e = ap (λ (z : ℕ). cond (eqb i k) 0 z) e

  module _ (solves : Solves most p R) where
    enough : (k : ℕ) → k < 16 → (d : Demand) → held p k ≡ Some d
        → ((p.cores - 1) * d.longest + d.total) + sum_to 16 (apart_from k (λ i. uses_ahead k (Some d) i (held p i))) < p.cores * (bound R k + 1)
    enough k l d e =
        omega (
          arith,
          bounds_enough_lem most p R solves k d l e,
          sum_same 16 (apart_from k (λ i. uses_ahead k (Some d) i (held p i))) (share_apart (cap_of most R k d) p R k)
              (λ i n. same_apart k i (uses_ahead k (Some d) i (held p i)) (share p.cores (cap_of most R k d i) (bound R k + bound R i) (held p i)) (uses_share k i d (held p i))),
        )

    pub bounded : Orderly goes most → Bounded (numbers_of goes most p R)
    bounded orderly =
        record {
          some_core = omega arith;
          orderly = orderly;
          lawful = λ k h.
              of_demand (λ o. Lawful (party_at k o)) k
              (λ d e. record { slotted = h.0; some_deadline = d.timed.0; in_period = d.timed.1; in_range = d.timed.2 }) h;
          in_slot = λ k h. refl;
          some_bound = λ k h. of_demand (λ o. 1 ≤ bound R k) k (λ d e. omega (arith, solves.equal k d h.0 e, d.sized.0)) h;
          in_deadline = λ k h. of_demand (λ o. bound R k ≤ number (λ d. d.deadline) o) k (λ d e. solves.kept k d h.0 e) h;
          enough = λ k h.
              of_demand
              (λ o. number (λ d. (p.cores - 1) * d.longest + d.total) o + sum_to 16 (apart_from k (λ i. uses_ahead k o i (held p i))) < p.cores * (bound R k + 1))
              k (enough k h.0) h;
        }
