-- The cores of a tick as a run has them: a place for each that is busy, with the outcome that its byte means.
use Rattle.std.proofs.Common.{◌≡◌, ℕ, zero, suc, ◌+◌, ◌<◌, ◌≤◌, Bool, true, false, cond, ◌&&◌, eqb, ◌⊎◌, List, [], ◌∷◌, length, Some, None, Option, sym, refl, ap, ◌∙◌, subst, inl, inr, arith}
use Rattle.std.proofs.lemmas.Bool.{cases_eq}
use Rattle.std.proofs.lemmas.Bool.Decides.{nat_tests}
use Rattle.std.specs.List.{AllByRecursion}
use Rattle.jobs.specs.Job.{Outcome}
use Rattle.timing.specs.Counts.{bit}
use Rattle.timing.specs.Jobs.{Turn}
use Rattle.timing.specs.Run.{Place, turns_for, places_of}
use Rattle.response.specs.Jobs.{outcome_in}
use Rattle.dispatch.specs.declared.spot.Spot.{Spot}
use Rattle.dispatch.specs.Closing.{meant, byte_at, is_spot, outcome_below}
use Rattle.dispatch.specs.Spots.{spot, spot_at, HasCore}

abbrev pub place_of : Spot → ℕ → Place Outcome
place_of p byte = record { slot = p.slot; turn = record { node = p.node; outcome = meant byte } }

abbrev pub with_place : Option Spot → ℕ → List (Place Outcome) → List (Place Outcome)
with_place None byte cs = cs
with_place (Some p) byte cs = place_of p byte ∷ cs

-- the places of the cores below c
abbrev pub places : List (Option Spot) → List ℕ → ℕ → List (Place Outcome)
places spots outcomes zero = []
places spots outcomes (suc c) = with_place (spot_at spots c) (byte_at outcomes c) (places spots outcomes c)

swap : (a b : ℕ) → eqb a b ≡ eqb b a
swap a b = grind (arith, nat_tests)

-- what the turns of a slot bring to a node is what the cores bring
module _ (s v : ℕ) where
  turn_brings : (b d : Bool) (o : Outcome) (p : Turn Outcome) (ts : List (Turn Outcome)) → eqb v p.node ≡ d
      → outcome_in (cond b (p ∷ ts) ts) v ≡ cond (b && d) p.outcome (outcome_in ts v)
  turn_brings true true o p ts e = ap (λ (x : Bool). cond x p.outcome (outcome_in ts v)) e
  turn_brings true false o p ts e = ap (λ (x : Bool). cond x p.outcome (outcome_in ts v)) e
  turn_brings false d o p ts e = refl

  place_brings : (x : Option Spot) (byte : ℕ) (cs : List (Place Outcome)) (o : Outcome) → outcome_in (turns_for s cs) v ≡ o
      → outcome_in (turns_for s (with_place x byte cs)) v ≡ cond (is_spot x s v) (meant byte) o
  place_brings None byte cs o e = e
  place_brings (Some p) byte cs o e =
      turn_brings (eqb s p.slot) (eqb p.node v) o (place_of p byte).turn (turns_for s cs) (swap v p.node)
      ∙ ap (λ (x : Bool). cond (x && eqb p.node v) (meant byte) (outcome_in (turns_for s cs) v)) (swap s p.slot)
      ∙ ap (λ (x : Outcome). cond (is_spot (Some p) s v) (meant byte) x) e

  pub turns_bring : (spots : List (Option Spot)) (outcomes : List ℕ) (c : ℕ)
      → outcome_in (turns_for s (places spots outcomes c)) v ≡ outcome_below spots outcomes c s v
  turns_bring spots outcomes zero = refl
  turns_bring spots outcomes (suc c) =
      place_brings (spot_at spots c) (byte_at outcomes c) (places spots outcomes c) (outcome_below spots outcomes c s v) (turns_bring spots outcomes c)

-- what holds of each core holds of each place
pub each_place : (P : Place Outcome → Type 0) (spots : List (Option Spot)) (outcomes : List ℕ) (c : ℕ)
    → ((b : ℕ) (p : Spot) → b < c → spot_at spots b ≡ Some p → P (place_of p (byte_at outcomes b))) → AllByRecursion P (places spots outcomes c)
each_place P spots outcomes zero h = tt
each_place P spots outcomes (suc c) h = go (spot_at spots c) refl (each_place P spots outcomes c (λ b p l e. h b p (omega arith) e))
  where
    go : (x : Option Spot) → spot_at spots c ≡ x → AllByRecursion P (places spots outcomes c)
        → AllByRecursion P (with_place x (byte_at outcomes c) (places spots outcomes c))
    go None e rest = rest
    go (Some p) e rest = (h c p (omega arith) e, rest)

pub few_places : (spots : List (Option Spot)) (outcomes : List ℕ) (c : ℕ) → length (places spots outcomes c) ≤ c
few_places spots outcomes zero = omega arith
few_places spots outcomes (suc c) = go (spot_at spots c) (few_places spots outcomes c)
  where
    go : (x : Option Spot) → length (places spots outcomes c) ≤ c → length (with_place x (byte_at outcomes c) (places spots outcomes c)) ≤ suc c
    go None l = omega arith
    go (Some p) l = omega arith

-- where every core is busy there are as many places as cores
pub all_places : (spots : List (Option Spot)) (outcomes : List ℕ) (c : ℕ) → ((b : ℕ) → b < c → (p : Spot) × (spot_at spots b ≡ Some p))
    → length (places spots outcomes c) ≡ c
all_places spots outcomes zero h = refl
all_places spots outcomes (suc c) h =
    go (spot_at spots c) (h c (omega arith)).0 (h c (omega arith)).1 (all_places spots outcomes c (λ b l. h b (omega arith)))
  where
    go : (x : Option Spot) (p : Spot) → x ≡ Some p → length (places spots outcomes c) ≡ c
        → length (with_place x (byte_at outcomes c) (places spots outcomes c)) ≡ suc c
    go None p e l = let z : ◌≡◌ {A = ℕ} 0 1 = cc in absurd (omega arith)
    go (Some q) p e l = omega arith

-- a node has a place where it has a core, and one at most where it has one core at most
module _ (spots : List (Option Spot)) (outcomes : List ℕ) (k v : ℕ) where
  one_more : (x : Option Spot) (byte : ℕ) (cs : List (Place Outcome)) (c : ℕ) → spot_at spots c ≡ x
      → ((spot_at spots c ≡ Some (spot k v)) × (places_of k v (with_place x byte cs) ≡ suc (places_of k v cs)))
      ⊎ ((spot_at spots c ≡ Some (spot k v) → ⊥) × (places_of k v (with_place x byte cs) ≡ places_of k v cs))
  one_more None byte cs c e = inr (λ f. let z : ◌≡◌ {A = ℕ} 0 1 = cc in omega arith, refl)
  one_more (Some p) byte cs c e = go (cases_eq k p.slot) (cases_eq v p.node)
    where
      here : (a b : ℕ) → a ≡ b → eqb a b ≡ true
      here a b h = grind (arith, nat_tests)

      apart : (a b : ℕ) → (a ≡ b → ⊥) → eqb a b ≡ false
      apart a b h = grind (arith, nat_tests)

      count : (d : Bool) → (eqb k p.slot && eqb v p.node) ≡ d → places_of k v (place_of p byte ∷ cs) ≡ bit d + places_of k v cs
      count d h = ap (λ (x : Bool). bit x + places_of k v cs) h

      go : (k ≡ p.slot) ⊎ (k ≡ p.slot → ⊥) → (v ≡ p.node) ⊎ (v ≡ p.node → ⊥)
          → ((spot_at spots c ≡ Some (spot k v)) × (places_of k v (place_of p byte ∷ cs) ≡ suc (places_of k v cs)))
          ⊎ ((spot_at spots c ≡ Some (spot k v) → ⊥) × (places_of k v (place_of p byte ∷ cs) ≡ places_of k v cs))
      go (inl a) (inl b) = inl (
        e ∙ ap (λ (x : ℕ). Some (spot x p.node)) (sym a) ∙ ap (λ (x : ℕ). Some (spot k x)) (sym b),
        omega (arith, count true (let x = here k p.slot a in let y = here v p.node b in ap (λ (z : Bool). z && eqb v p.node) x ∙ y)),
      )
      go (inr a) b = inr (
        λ f. a (let g : Some p ≡ Some (spot k v) = sym e ∙ f in cc),
        omega (arith, count false (ap (λ (z : Bool). z && eqb v p.node) (apart k p.slot a))),
      )
      go (inl a) (inr b) = inr (
        λ f. b (let g : Some p ≡ Some (spot k v) = sym e ∙ f in cc),
        omega (arith, count false (ap (λ (z : Bool). z && eqb v p.node) (here k p.slot a) ∙ apart v p.node b)),
      )

  -- no place, no core
  pub no_place : (c : ℕ) → places_of k v (places spots outcomes c) ≡ 0 → HasCore spots c k v → ⊥
  no_place zero e (b, l, h) = omega arith
  no_place (suc c) e (b, l, h) = go (one_more (spot_at spots c) (byte_at outcomes c) (places spots outcomes c) c refl) (no_place c)
    where
      go : ((spot_at spots c ≡ Some (spot k v)) × (places_of k v (places spots outcomes (suc c)) ≡ suc (places_of k v (places spots outcomes c))))
          ⊎ ((spot_at spots c ≡ Some (spot k v) → ⊥) × (places_of k v (places spots outcomes (suc c)) ≡ places_of k v (places spots outcomes c)))
          → (places_of k v (places spots outcomes c) ≡ 0 → HasCore spots c k v → ⊥) → ⊥
      go (inl (f, n)) before = omega arith
      go (inr (f, n)) before = elim (cases_eq b c) [
        | inl same ↦ f (subst (λ (x : ℕ). spot_at spots x ≡ Some (spot k v)) same h)
        | inr other ↦ before (omega arith) (b, omega arith, h)
      ]

  -- a place, a core
  pub some_core : (c : ℕ) → 1 ≤ places_of k v (places spots outcomes c) → HasCore spots c k v
  some_core zero l = absurd (omega arith)
  some_core (suc c) l = go (one_more (spot_at spots c) (byte_at outcomes c) (places spots outcomes c) c refl) (some_core c)
    where
      further : HasCore spots c k v → HasCore spots (suc c) k v
      further (b, m, h) = (b, omega arith, h)

      go : ((spot_at spots c ≡ Some (spot k v)) × (places_of k v (places spots outcomes (suc c)) ≡ suc (places_of k v (places spots outcomes c))))
          ⊎ ((spot_at spots c ≡ Some (spot k v) → ⊥) × (places_of k v (places spots outcomes (suc c)) ≡ places_of k v (places spots outcomes c)))
          → (1 ≤ places_of k v (places spots outcomes c) → HasCore spots c k v) → HasCore spots (suc c) k v
      go (inl (f, n)) before = (c, omega arith, f)
      go (inr (f, n)) before = further (before (omega arith))

  pub one_place : ((b c : ℕ) → spot_at spots b ≡ Some (spot k v) → spot_at spots c ≡ Some (spot k v) → b ≡ c)
      → (c : ℕ) → places_of k v (places spots outcomes c) ≤ 1
  one_place once zero = omega arith
  one_place once (suc c) = go (one_more (spot_at spots c) (byte_at outcomes c) (places spots outcomes c) c refl) (one_place once c)
    where
      none_or_some : (n : ℕ) → (n ≡ 0) ⊎ (1 ≤ n)
      none_or_some zero = inl refl
      none_or_some (suc n) = inr (omega arith)

      none_before : spot_at spots c ≡ Some (spot k v) → HasCore spots c k v → ⊥
      none_before f (b, l, h) = omega (arith, once b c h f)

      go : ((spot_at spots c ≡ Some (spot k v)) × (places_of k v (places spots outcomes (suc c)) ≡ suc (places_of k v (places spots outcomes c))))
          ⊎ ((spot_at spots c ≡ Some (spot k v) → ⊥) × (places_of k v (places spots outcomes (suc c)) ≡ places_of k v (places spots outcomes c)))
          → places_of k v (places spots outcomes c) ≤ 1 → places_of k v (places spots outcomes (suc c)) ≤ 1
      go (inl (f, n)) before = elim (none_or_some (places_of k v (places spots outcomes c))) [
        | inl z ↦ omega arith
        | inr m ↦ absurd (none_before f (some_core c m))
      ]
      go (inr (f, n)) before = omega arith
