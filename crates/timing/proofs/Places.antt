-- A tick seen slot by slot: the turns that the places of one list give to each slot.
use Rattle.std.proofs.Common.{◌≡◌, ℕ, zero, suc, ◌+◌, ◌<◌, ◌≤◌, Bool, true, false, cond, ◌&&◌, eqb, ◌⊎◌, List, [], ◌∷◌, length, sym, refl, subst, inl, inr, arith}
use Rattle.std.proofs.lemmas.Bool.Decides.{nat_tests}
use Rattle.std.proofs.lemmas.Bool.{cases_eq, eqb-true}
use Rattle.std.specs.List.{AllByRecursion}
use Rattle.bounds.specs.Equation.{sum_to}
use Rattle.timing.specs.Counts.{bit}
use Rattle.timing.specs.Jobs.{Jobs, Turn, turns_of, Fair}
use Rattle.timing.specs.System.{System, Held}
use Rattle.timing.specs.Run.{Slot, idle, busy, State, Place, turns_for, places_of, ReadyAt, MayHaveAt, OpenAt, MayTick}
use Rattle.timing.proofs.Counting.{sum_to_add, sum_to_none, one_node}
use Rattle.timing.proofs.Interference.{goes_ahead}
use Rattle.timing.proofs.Logs.{all_weaker}

-- ---- what is asked of the turns of each slot

abbrev pub Turns : System → Type 0
Turns y = ℕ → List (Turn y.Outcome)

-- how many cores run in the tick
abbrev pub running : (y : System) → Turns y → ℕ
running y turns = sum_to y.plan.slots (λ i. length (turns i))

abbrev pub FairAt : {O : Type 0} (J : Jobs O) → List (Turn O) → Slot J.State → Type 0
FairAt J ts (idle past) = length ts ≡ 0
FairAt J ts (busy r spent j past) = Fair J j ts

-- Where a ready node of slot k's open job has no turn, all cores run, and run jobs that go ahead of it, or its own.
abbrev pub Conserving : (y : System) → State y → Turns y → (k : ℕ) → Slot (y.jobs k).State → Type 0
Conserving y s turns k (idle past) = Unit {0}
Conserving y s turns k (busy r spent j past) =
    (w : ℕ) → (y.jobs k).Ready j w → turns_of w (turns k) ≡ 0
    → (running y turns ≡ y.plan.cores)
    × ((i : ℕ) → i < y.plan.slots → (i ≡ k → ⊥) → 1 ≤ length (turns i) → OpenAt (λ q. goes_ahead y.plan k r i q ≡ true) (s.slot i))

pub record Slotwise (y : System) (s : State y) (turns : Turns y) : Type 0 where
  pub fair : (k : ℕ) → k < y.plan.slots → FairAt (y.jobs k) (turns k) (s.slot k)
  pub few : running y turns ≤ y.plan.cores
  pub conserving : (k : ℕ) → Held y.plan k → Conserving y s turns k (s.slot k)

-- ---- the places of a list

module _ {O : Type 0} where
  length_turns : (k : ℕ) (c : Place O) (cs : List (Place O)) → length (turns_for k (c ∷ cs)) ≡ bit (eqb k c.slot) + length (turns_for k cs)
  length_turns k c cs = go (eqb k c.slot)
    where
      go : (b : Bool) → length (cond b (c.turn ∷ turns_for k cs) (turns_for k cs)) ≡ bit b + length (turns_for k cs)
      go true = omega arith
      go false = omega arith

  pub turns_are_places : (k v : ℕ) (cs : List (Place O)) → turns_of v (turns_for k cs) ≡ places_of k v cs
  turns_are_places k v [] = refl
  turns_are_places k v (c ∷ cs) = go (eqb k c.slot) (turns_are_places k v cs)
    where
      go : (b : Bool) → turns_of v (turns_for k cs) ≡ places_of k v cs → turns_of v (cond b (c.turn ∷ turns_for k cs) (turns_for k cs)) ≡ bit (b && eqb v c.turn.node) + places_of k v cs
      go true e = omega arith
      go false e = omega arith

  all_turns : (n : ℕ) (cs : List (Place O)) → AllByRecursion (λ c. c.slot < n) cs → sum_to n (λ k. length (turns_for k cs)) ≡ length cs
  unfolding sum_to
  all_turns n [] h = sum_to_none n
  all_turns n (c ∷ cs) h = omega (arith, split n, sum_to_add n (λ k. bit (eqb k c.slot)) (λ k. length (turns_for k cs)), one_node n c.slot h.0, all_turns n cs h.1)
    where
      split : (i : ℕ) → sum_to i (λ k. length (turns_for k (c ∷ cs))) ≡ sum_to i (λ k. bit (eqb k c.slot) + length (turns_for k cs))
      split zero = refl
      split (suc i) = omega (arith, length_turns i c cs, split i)

  -- a slot with turns has a place
  place_of : (P : ℕ → Type 0) (i : ℕ) (cs : List (Place O)) → AllByRecursion (λ c. P c.slot) cs → 1 ≤ length (turns_for i cs) → P i
  place_of P i [] h l = absurd (omega arith)
  place_of P i (c ∷ cs) h l =
      elim (cases_eq i c.slot) [ inl e ↦ subst P (sym e) h.0 | inr ne ↦ place_of P i cs h.1 (omega (arith, length_turns i c cs, other i c.slot ne)) ]
    where
      other : (a b : ℕ) → (a ≡ b → ⊥) → bit (eqb a b) ≡ 0
      other a b n = grind (arith, nat_tests)

  -- what holds of every place holds of the turns of a slot
  turns_of_places : (P : ℕ → Turn O → Type 0) (k : ℕ) (cs : List (Place O)) → AllByRecursion (λ c. P c.slot c.turn) cs → AllByRecursion (P k) (turns_for k cs)
  turns_of_places P k [] h = tt
  turns_of_places P k (c ∷ cs) h = go (eqb k c.slot) refl (turns_of_places P k cs h.1)
    where
      go : (b : Bool) → eqb k c.slot ≡ b → AllByRecursion (P k) (turns_for k cs) → AllByRecursion (P k) (cond b (c.turn ∷ turns_for k cs) (turns_for k cs))
      go true e rest = (subst (λ (i : ℕ). P i c.turn) (sym (eqb-true k c.slot e)) h.0, rest)
      go false e rest = rest

-- what holds of the turns of each slot holds of every place
pub places_by_turns : {O : Type 0} (P : ℕ → Turn O → Type 0) (cs : List (Place O)) → ((k : ℕ) → AllByRecursion (P k) (turns_for k cs)) → AllByRecursion (λ c. P c.slot c.turn) cs
places_by_turns P [] h = tt
places_by_turns P (c ∷ cs) h = (here (eqb c.slot c.slot) (same c.slot) (h c.slot), places_by_turns P cs (λ k. rest k (eqb k c.slot) (h k)))
  where
    same : (k : ℕ) → eqb k k ≡ true
    same k = grind (arith, nat_tests)

    here : (b : Bool) → b ≡ true → AllByRecursion (P c.slot) (cond b (c.turn ∷ turns_for c.slot cs) (turns_for c.slot cs)) → P c.slot c.turn
    here true e all = all.0
    here false e all = absurd (grind arith)

    rest : (k : ℕ) (b : Bool) → AllByRecursion (P k) (cond b (c.turn ∷ turns_for k cs) (turns_for k cs)) → AllByRecursion (P k) (turns_for k cs)
    rest k true all = all.1
    rest k false all = all

module _ (y : System) (s : State y) (cs : List (Place y.Outcome)) (may : MayTick y s cs) where
  abbrev turns : Turns y
  turns k = turns_for k cs

  turns_allowed : (k : ℕ) → AllByRecursion (λ t. MayHaveAt (y.jobs k) t (s.slot k)) (turns_for k cs)
  turns_allowed k =
      turns_of_places (λ i t. MayHaveAt (y.jobs i) t (s.slot i)) k cs
      (all_weaker (λ c. (c.slot < y.plan.slots) × MayHaveAt (y.jobs c.slot) c.turn (s.slot c.slot)) (λ c. MayHaveAt (y.jobs c.slot) c.turn (s.slot c.slot)) (λ c h. h.1) cs may.allowed)

  all_running : running y turns ≡ length cs
  all_running = all_turns y.plan.slots cs (all_weaker (λ c. (c.slot < y.plan.slots) × MayHaveAt (y.jobs c.slot) c.turn (s.slot c.slot)) (λ c. c.slot < y.plan.slots) (λ c h. h.0) cs may.allowed)

  fair_at : (k : ℕ) (x : Slot (y.jobs k).State) → AllByRecursion (λ t. MayHaveAt (y.jobs k) t x) (turns_for k cs) → FairAt (y.jobs k) (turns_for k cs) x
  fair_at k (idle past) allowed = no_turns (turns_for k cs) allowed
    where
      no_turns : (ts : List (Turn y.Outcome)) → AllByRecursion (λ t. ⊥) ts → length ts ≡ 0
      no_turns [] none = refl
      no_turns (t ∷ ts) none = absurd none.0
  fair_at k (busy r sp j past) allowed = record { once = λ v. omega (arith, turns_are_places k v cs, may.once k v); allowed = allowed }

  conserving_at : (k : ℕ) (x : Slot (y.jobs k).State) →
      ((w : ℕ) → ReadyAt (y.jobs k) w x → places_of k w cs ≡ 0 → (length cs ≡ y.plan.cores) × AllByRecursion (λ c. (c.slot ≡ k) ⊎ OpenAt (λ r. OpenAt (λ q. goes_ahead y.plan k r c.slot q ≡ true) (s.slot c.slot)) x) cs) →
      Conserving y s turns k x
  conserving_at k (idle past) h = tt
  conserving_at k (busy r sp j past) h = λ w ready none.
      let both = h w ready (omega (arith, turns_are_places k w cs)) in (
        omega (arith, all_running, both.0),
        λ i il ne some. ahead i ne (place_of (λ q. (q ≡ k) ⊎ OpenAt (λ u. goes_ahead y.plan k r q u ≡ true) (s.slot q)) i cs both.1 some),
      )
    where
      ahead : (i : ℕ) → (i ≡ k → ⊥) → (i ≡ k) ⊎ OpenAt (λ q. goes_ahead y.plan k r i q ≡ true) (s.slot i) → OpenAt (λ q. goes_ahead y.plan k r i q ≡ true) (s.slot i)
      ahead i ne (inl e) = absurd (ne e)
      ahead i ne (inr g) = g

  pub slotwise : Slotwise y s (λ k. turns_for k cs)
  slotwise =
      record {
        fair = λ k l. fair_at k (s.slot k) (turns_allowed k);
        few = omega (arith, all_running, may.few);
        conserving = λ k h. conserving_at k (s.slot k) (λ w ready none. may.work_conserving k w h ready none);
      }
