-- What the cores bring to a node.
use Rattle.std.proofs.Common.{◌≡◌, ℕ, zero, suc, ◌+◌, ◌<◌, Bool, true, false, cond, eqb, ◌⊎◌, List, [], ◌∷◌, length, set, Some, None, Option, sym, refl, ap, ◌∙◌, subst, ap₂, inl, inr, add-one, arith}
use Rattle.std.proofs.lemmas.List.{ext_get_or, length-set, get_or-set_same, get_or-set_other}
use Rattle.std.proofs.lemmas.Bool.{cases_eq, cases_Bool, and_parts, and_from, eq-eqb, eqb-true, cond-true, cond-false}
use Rattle.jobs.specs.declared.node_state.NodeState.{NodeState}
use Rattle.jobs.specs.declared.node_state.NodeState.TheVariants.{Untouched}
use Rattle.jobs.specs.Job.{state, Outcome, idle, next, after}
use Rattle.jobs.proofs.Tick.{length_after}
use Rattle.sets.specs.declared.bit_set.BitSet.{BitSet}
use Rattle.sets.specs.Sets.{With}
use Rattle.sets.proofs.Marked.{gather_none, gather_skip, gather_more}
use Rattle.dispatch.specs.declared.spot.Spot.{Spot}
use Rattle.dispatch.specs.Closing.{meant, byte_at, is_spot, outcome_below}
use Rattle.dispatch.specs.Moves.{Runs}
use Rattle.dispatch.specs.Spots.{spot, spot_at}
use Rattle.dispatch.specs.Tables.{no_number}

is_it : (x : Option Spot) (s n : ℕ) → is_spot x s n ≡ true → x ≡ Some (spot s n)
is_it (Some p) s n e =
    let b = and_parts (eqb p.slot s) (eqb p.node n) e in
    ap₂ (λ (i j : ℕ). Some (spot i j)) (eqb-true p.slot s b.0) (eqb-true p.node n b.1)
is_it None s n e = let z : ◌≡◌ {A = ℕ} 0 1 = absurd_bool e in absurd (omega arith)
  where
    absurd_bool : false ≡ true → ◌≡◌ {A = ℕ} 0 1
    absurd_bool e = cc

it_is : (x : Option Spot) (s n : ℕ) → x ≡ Some (spot s n) → is_spot x s n ≡ true
it_is x s n e = ap (λ (y : Option Spot). is_spot y s n) e ∙ and_from (eqb s s) (eqb n n) (eq-eqb s s refl) (eq-eqb n n refl)

module _ (spots : List (Option Spot)) (outcomes : List ℕ) where
  -- the core that ran the node
  pub record OnCore (m s v : ℕ) (o : Outcome) : Type 0 where
    pub core : ℕ
    pub below : core < m
    pub its_spot : spot_at spots core ≡ Some (spot s v)
    pub its_outcome : o ≡ meant (byte_at outcomes core)

  pub on_core : (m s v : ℕ) → OnCore m s v (outcome_below spots outcomes m s v) ⊎ (outcome_below spots outcomes m s v ≡ idle)
  on_core zero s v = inr refl
  on_core (suc c) s v = go (cases_Bool (is_spot (spot_at spots c) s v)) (on_core c s v)
    where
      here : Bool
      here = is_spot (spot_at spots c) s v

      told : Outcome
      told = meant (byte_at outcomes c)

      before : Outcome
      before = outcome_below spots outcomes c s v

      go : (here ≡ true) ⊎ (here ≡ false) → OnCore c s v before ⊎ (before ≡ idle) → OnCore (suc c) s v (cond here told before) ⊎ (cond here told before ≡ idle)
      go (inl e) _ = inl (record { core = c; below = omega arith; its_spot = is_it (spot_at spots c) s v e; its_outcome = cond-true here told before e })
      go (inr e) (inl f) =
          inl (record {
            core = f.core;
            below = let h = f.below in omega arith;
            its_spot = f.its_spot;
            its_outcome = cond-false here told before e ∙ f.its_outcome;
          })
      go (inr e) (inr f) = inr (cond-false here told before e ∙ f)

  here_more : (c s v : ℕ) → spot_at spots c ≡ Some (spot s v) → outcome_below spots outcomes (suc c) s v ≡ meant (byte_at outcomes c)
  here_more c s v e = cond-true (is_spot (spot_at spots c) s v) (meant (byte_at outcomes c)) (outcome_below spots outcomes c s v) (it_is (spot_at spots c) s v e)

  else_more : (c s v : ℕ) → (spot_at spots c ≡ Some (spot s v) → ⊥) → outcome_below spots outcomes (suc c) s v ≡ outcome_below spots outcomes c s v
  else_more c s v d = go (cases_Bool (is_spot (spot_at spots c) s v))
    where
      go : (is_spot (spot_at spots c) s v ≡ true) ⊎ (is_spot (spot_at spots c) s v ≡ false) → outcome_below spots outcomes (suc c) s v ≡ outcome_below spots outcomes c s v
      go (inl e) = absurd (d (is_it (spot_at spots c) s v e))
      go (inr e) = cond-false (is_spot (spot_at spots c) s v) (meant (byte_at outcomes c)) (outcome_below spots outcomes c s v) e

pub state_after : (outcome : ℕ → Outcome) (job : List NodeState) (v : ℕ) → v < length job → state (after outcome job) v ≡ next (outcome v) (state job v)
state_after outcome [] v l = absurd (omega arith)
state_after outcome (s ∷ job) zero l = refl
state_after outcome (s ∷ job) (suc v) l = state_after (λ u. outcome (suc u)) job v (omega arith)

-- a list that has each node's state after the tick
after_by : (f : ℕ → Outcome) (job new : List NodeState) → length new ≡ length job → ((v : ℕ) → v < length job → state new v ≡ next (f v) (state job v)) → new ≡ after f job
after_by f job new e h =
    ext_get_or Untouched new (after f job) (e ∙ sym (length_after f job)) (λ i l. h i (omega arith) ∙ sym (state_after f job i (omega arith)))

after_none : (job : List NodeState) → after (λ v. idle) job ≡ job
after_none [] = refl
after_none (s ∷ job) = ap (λ (r : List NodeState). s ∷ r) (after_none job)

module _ (spots : List (Option Spot)) (outcomes : List ℕ) (s : ℕ) (job : List NodeState) where
  abbrev On : ℕ → ℕ → Type 0
  On c n = spot_at spots c ≡ Some (spot s n)

  pub runs_none : Runs spots outcomes 0 s job job no_number
  runs_none = record { states = sym (after_none job); marked = gather_none On }

  module _ (c : ℕ) (now : List NodeState) (placed : BitSet) (r : Runs spots outcomes c s job now placed) where
    size : length now ≡ length job
    size = ap length r.states ∙ length_after (outcome_below spots outcomes c s) job

    was : (i : ℕ) → i < length job → state now i ≡ next (outcome_below spots outcomes c s i) (state job i)
    was i l = ap (λ (x : List NodeState). state x i) r.states ∙ state_after (outcome_below spots outcomes c s) job i l

    -- the core runs no node of the slot
    pub runs_skip : ((n : ℕ) → On c n → ⊥) → Runs spots outcomes (c + 1) s job now placed
    runs_skip none = record {
      states = subst (λ (m : ℕ). now ≡ after (outcome_below spots outcomes m s) job) (sym (add-one c))
          (after_by (outcome_below spots outcomes (suc c) s) job now size
          (λ i l. was i l ∙ ap (λ (o : Outcome). next o (state job i)) (sym (else_more spots outcomes c s i (none i)))));
      marked = gather_skip On c placed r.marked none;
    }

    same_node : (i n : ℕ) → On c i → On c n → i ≡ n
    same_node i n e f = let h : spot s i ≡ spot s n = cc in ap (λ (p : Spot). p.node) h

    -- it runs the node n
    pub runs_more : (n : ℕ) (t : NodeState) (more : BitSet) → n < length job → On c n → t ≡ next (meant (byte_at outcomes c)) (state job n) → With placed n more
        → Runs spots outcomes (c + 1) s job (set now n t) more
    runs_more n t more ln on e new = record {
      states = subst (λ (m : ℕ). set now n t ≡ after (outcome_below spots outcomes m s) job) (sym (add-one c))
          (after_by (outcome_below spots outcomes (suc c) s) job (set now n t) (length-set now n t ∙ size) (λ i l. each i l (cases_eq i n)));
      marked = gather_more On c n placed more r.marked new on (λ i f. same_node i n f on);
    }
      where
        each : (i : ℕ) → i < length job → (i ≡ n) ⊎ (i ≡ n → ⊥) → state (set now n t) i ≡ next (outcome_below spots outcomes (suc c) s i) (state job i)
        each i l (inl q) =
            subst (λ (j : ℕ). state (set now n t) j ≡ next (outcome_below spots outcomes (suc c) s j) (state job j)) (sym q)
            (get_or-set_same now n t Untouched (omega (arith, size)) ∙ e ∙ ap (λ (o : Outcome). next o (state job n)) (sym (here_more spots outcomes c s n on)))
        each i l (inr d) =
            get_or-set_other now n i t Untouched d ∙ was i l
            ∙ ap (λ (o : Outcome). next o (state job i)) (sym (else_more spots outcomes c s i (λ f. d (same_node i n f on))))
