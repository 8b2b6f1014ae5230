-- A bound that rises does not raise the right side of a task that no job of its slot goes ahead of.
use Rattle.std.proofs.Common.{◌≡◌, ℕ, ◌+◌, ◌*◌, ◌<◌, ◌≤◌, min, ◌⊎◌, List, set, Some, None, Option, sym, refl, ap, ◌∙◌, inl, inr, mul-zero, arith}
use Rattle.std.proofs.lemmas.Bool.{cases_eq}
use Rattle.std.proofs.lemmas.List.{get_or-set_other}
use Rattle.bounds.specs.declared.plan.Demand.{Demand}
use Rattle.bounds.specs.declared.plan.Plan.{Plan}
use Rattle.bounds.specs.Equation.{Caps, held, bound, party_of, cap_of, work_ahead_of, share, share_apart, interference, right_side}
use Rattle.bounds.proofs.Sums.{sum_mono}
use Rattle.bounds.proofs.Sides.{share_other, share_own}
use Rattle.bounds.proofs.Rising.{spread_mono}

none_ahead : (m W T window : ℕ) (cap : Option ℕ) → cap ≡ Some 0 → work_ahead_of m W T cap window ≡ 0
none_ahead m W T window cap e = ap (λ (c : Option ℕ). work_ahead_of m W T c window) e ∙ none W _
  where
    none : (W x : ℕ) → W * min 0 x ≡ 0
    none W x = let z : min 0 x ≡ 0 = omega arith in rw z (mul-zero W)

module _ (most : Caps) (p : Plan) (R : List ℕ) (k v j : ℕ) (d : Demand) (apart : j ≡ k → ⊥)
    (none : (e : Demand) → held p k ≡ Some e → cap_of most (set R k v) j d k e ≡ Some 0) where
  other : (i : ℕ) → (i ≡ k → ⊥) → bound (set R k v) i ≡ bound R i
  other i ne = get_or-set_other R k i v 0 ne

  share_low : (i : ℕ) → i < 16 → share_apart (cap_of most (set R k v) j d) p (set R k v) j i ≤ share_apart (cap_of most R j d) p R j i
  share_low i l =
      elim (cases_eq i j) [
        | inl e ↦ omega (arith, share_own (cap_of most (set R k v) j d) p (set R k v) j i e)
        | inr ne ↦ by ne (held p i) refl (cases_eq i k)
      ]
    where
      after : (o : Option Demand) → (i ≡ j → ⊥) → held p i ≡ o
          → share_apart (cap_of most (set R k v) j d) p (set R k v) j i
          ≡ share p.cores (cap_of most (set R k v) j d i) (bound (set R k v) j + bound (set R k v) i) o
      after o ne h = share_other (cap_of most (set R k v) j d) p (set R k v) j i o ne h

      by : (i ≡ j → ⊥) → (o : Option Demand) → held p i ≡ o → (i ≡ k) ⊎ (i ≡ k → ⊥)
          → share_apart (cap_of most (set R k v) j d) p (set R k v) j i ≤ share_apart (cap_of most R j d) p R j i
      by ne None h _ = omega (arith, after None ne h)
      by ne (Some e) h (inl q) =
          omega (
            arith,
            after (Some e) ne h,
            none_ahead p.cores e.total e.period (bound (set R k v) j + bound (set R k v) i) (cap_of most (set R k v) j d i e)
                (ap (λ (x : ℕ). cap_of most (set R k v) j d x e) q ∙ none e (ap (held p) (sym q) ∙ h)),
          )
      by ne (Some e) h (inr b) =
          omega (
            arith,
            after (Some e) ne h,
            share_other (cap_of most R j d) p R j i (Some e) ne h,
            ap
                (λ (x : ℕ). work_ahead_of p.cores e.total e.period (most (party_of i e) (party_of j d) x) (bound (set R k v) j + x))
                (other i b)
                ∙ ap (λ (y : ℕ). work_ahead_of p.cores e.total e.period (cap_of most R j d i e) (y + bound R i)) (other j apart),
          )

  pub side_low : right_side most p (set R k v) j d ≤ right_side most p R j d
  side_low =
      spread_mono p.cores d.longest d.total (interference (cap_of most (set R k v) j d) p (set R k v) j) (interference (cap_of most R j d) p R j)
      (omega arith) (sum_mono 16 (share_apart (cap_of most (set R k v) j d) p (set R k v) j) (share_apart (cap_of most R j d) p R j) share_low)
