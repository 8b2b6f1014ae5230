-- One step from sound bounds, caps and pending slots.
use Rattle.std.proofs.Common.{◌≡◌, ℕ, ◌+◌, ◌-◌, ◌*◌, ◌<◌, Bool, ◌⊎◌, List, [], length, get_or, set, ℤ, Some, None, Ok, Err, Option, Result, sym, ap, ◌∙◌, subst, inl, inr, arith}
use Rattle.std.proofs.lemmas.Bool.{cases_eq}
use Rattle.std.proofs.lemmas.List.{get_or-set_other}
use Rattle.order.specs.declared.Party.{Party}
use Rattle.order.specs.Laws.{Orderly}
use Rattle.sets.specs.Sets.{Has, Without, Marks}
use Rattle.sets.specs.declared.bit_set.BitSet.{BitSet}
use Rattle.bounds.specs.declared.plan.Demand.{Demand}
use Rattle.bounds.specs.declared.plan.Plan.{Plan}
use Rattle.bounds.specs.declared.rise.Passed.{Passed}
use Rattle.bounds.specs.Equation.{Caps, held, bound, party_of, cap_of, first_bounds_of, Least, Reached, Passes, Told}
use Rattle.bounds.specs.Equation.Reached.{begun, raised}
use Rattle.bounds.specs.Steps.{Holds, weight, count, SettledAt, Moves, Current, kept, Reopened, Sound}
use Rattle.bounds.proofs.Untouched.{side_low}
use Rattle.bounds.proofs.Rising.{reached_rising, settled_least, passes_none, weight_small, weight_grows}
use Rattle.bounds.proofs.Kept.{side_kept}
use Rattle.bounds.proofs.Pending.{count_small, count_less}

-- at first every task is pending
pub first_sound : (most : Caps) (p : Plan) (R : List ℕ) (C : List (List (Option ℕ))) (s : BitSet) → R ≡ first_bounds_of p → Current most p R C → Marks (Holds p) s
    → Sound most p R C s
first_sound most p R C s e now m =
    record { reached = begun R e; current = now; slots = λ k h. (m.only k h).0; settled = λ k l out d h. absurd (out (m.every k (l, (d, h)))) }

-- the same step of the same plan, at the same slot
pub moves_at : (C : List (List (Option ℕ))) (p q : Plan) (R : List ℕ) (n k : ℕ) (m : Result (Option ℕ) Passed) → p ≡ q → n ≡ k
    → Moves (kept C n) p R n m → Moves (kept C k) q R k m
moves_at C p q R n k m e f h =
    subst (λ (x : Plan). Moves (kept C k) x R k m) e (subst (λ (x : ℕ). Moves (kept C x) p R x m) f h)

module _ {goes : Party → Party → ℤ → Bool} {most : Caps} (laws : Orderly goes most)
    {p : Plan} {R : List ℕ} {C : List (List (Option ℕ))} {s : BitSet} (now : Sound most p R C s) where
  pub none_pending : ((k : ℕ) → Has s k → ⊥) → Least most p R
  none_pending out = settled_least goes most laws p R now.reached (λ k l. now.settled k l (out k))

  module _ (k : ℕ) (inside : Has s k) where
    within : k < 16
    within = now.slots k inside

    pub stays : (r : BitSet) → Without s k r → Moves (kept C k) p R k (Ok None) → Sound most p R C r
    stays r w m =
        record {
          reached = now.reached;
          current = now.current;
          slots = λ j h. now.slots j (w.no_more j h);
          settled = λ j l out. by j l out (cases_eq j k);
        }
      where
        here : SettledAt most p R k
        here d h = omega (arith, m d h, side_kept most p R C now.current k d within h)

        by : (j : ℕ) → j < 16 → (Has r j → ⊥) → (j ≡ k) ⊎ (j ≡ k → ⊥) → SettledAt most p R j
        by j l out (inl e) = subst (λ (x : ℕ). SettledAt most p R x) (sym e) here
        by j l out (inr ne) = now.settled j l (λ h. elim (w.keeps j h) [ inl e ↦ ne e | inr g ↦ out g ])

    pub stays_less : (r : BitSet) → Without s k r → (16000000 - weight R) * 17 + count r < (16000000 - weight R) * 17 + count s
    stays_less r w = omega (arith, count_less s r k within inside w)

    module _ (v : ℕ) (m : Moves (kept C k) p R k (Ok (Some v))) where
      rises_reached : Reached most p (set R k v)
      rises_reached =
          let e = side_kept most p R C now.current k m.0 within m.1 in
          raised R (set R k v) k m.0 now.reached within m.1 (omega (arith, m.2, m.3, e)) (ap (set R k) (m.2 ∙ e))

      pub rises : (S : List ℕ) (D : List (List (Option ℕ))) (r : BitSet) → S ≡ set R k v → Current most p S D → Reopened s (get_or D k []) r
          → Sound most p S D r
      rises S D r e new t =
          record {
            reached = subst (Reached most p) (sym e) rises_reached;
            current = new;
            slots = λ j h. elim (t.no_more j h) [ inl g ↦ now.slots j g | inr l ↦ l ];
            settled = λ j l out. subst (λ (T : List ℕ). SettledAt most p T j) (sym e) (still j l out);
          }
        where
          sized : length R ≡ 16
          sized = (reached_rising goes most laws p R now.reached).sized

          here : bound S k ≡ bound (set R k v) k
          here = ap (λ (T : List ℕ). bound T k) e

          still : (j : ℕ) → j < 16 → (Has r j → ⊥) → SettledAt most p (set R k v) j
          still j l out d h =
              let apart : j ≡ k → ⊥ = λ e. out (t.keeps j (subst (Has s) (sym e) inside)) in
              let none : (e : Demand) → held p k ≡ Some e → cap_of most (set R k v) j d k e ≡ Some 0 =
              λ e g. ap (most (party_of k e) (party_of j d)) (sym here)
              ∙ sym ((new.rows k within).asked j e d l (λ q. apart (sym q)) g h) ∙ t.shut j l out in
              omega (
                arith,
                side_low most p R k v j d apart none,
                get_or-set_other R k j v 0 apart,
                now.settled j l (λ g. out (t.keeps j g)) d h,
              )

      pub rises_less : (S : List ℕ) (t : BitSet) → S ≡ set R k v → (16000000 - weight S) * 17 + count t < (16000000 - weight R) * 17 + count s
      rises_less S t e =
          omega (
            arith,
            ap weight e,
            count_small t,
            weight_grows goes most laws p R now.reached k v within m.4,
            weight_small goes most laws p (set R k v) rises_reached,
          )

    pub refused : (e : Passed) → Moves (kept C k) p R k (Err e) → Told most p (Err e)
    refused e m = (subst (Passes most p) (sym m.3) fails, passes_none goes most laws p k fails)
      where
        fails : Passes most p k
        fails =
            record {
              within = within;
              task = m.0;
              there = m.1;
              bounds = R;
              reached = now.reached;
              past = omega (arith, m.2, side_kept most p R C now.current k m.0 within m.1);
            }
