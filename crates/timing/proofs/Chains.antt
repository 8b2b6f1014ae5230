-- One tick of one open job: each ready node has a chain that keeps up with the time.
use Rattle.std.proofs.Common.{◌≡◌, ℕ, suc, ◌+◌, ◌-◌, ◌*◌, ◌<◌, ◌≤◌, Bool, true, false, eqb, ◌⊎◌, List, [], ◌∷◌, length, sym, refl, subst, inl, inr, mul-le-mul_left, arith}
use Rattle.std.proofs.lemmas.Bool.{cases_lt, eqb-true}
use Rattle.std.specs.List.{AllByRecursion}
use Rattle.timing.specs.Counts.{bit}
use Rattle.timing.specs.Jobs.{Jobs, JobLaws, Turn, turns_of, MayHave, Fair}
use Rattle.timing.proofs.Counting.{count_if_length}
use Rattle.timing.proofs.Logs.{all_weaker}

-- what holds of every turn's node holds of a node with a turn
pub node_with_turn : {O : Type 0} (P : ℕ → Type 0) (ts : List (Turn O)) → AllByRecursion (λ t. P t.node) ts → (v : ℕ) → 1 ≤ turns_of v ts → P v
node_with_turn P [] all v h = absurd (omega arith)
node_with_turn P (t ∷ ts) all v h = go (eqb v t.node) refl h (node_with_turn P ts all.1 v)
  where
    go : (b : Bool) → eqb v t.node ≡ b → 1 ≤ bit b + turns_of v ts → (1 ≤ turns_of v ts → P v) → P v
    go true e some rest = subst P (sym (eqb-true v t.node e)) all.0
    go false e some rest = rest (omega arith)

-- a node with a turn is ready
pub turn_ready : {O : Type 0} (J : Jobs O) (j : J.State) (ts : List (Turn O)) → Fair J j ts → (v : ℕ) → 1 ≤ turns_of v ts → J.Ready j v
turn_ready J j ts fair = node_with_turn (J.Ready j) ts (all_weaker (MayHave J j) (λ t. J.Ready j t.node) (λ t h. h.0) ts fair.allowed)

-- A chain to w that has kept up with the time t since the release at r, but for the core-ticks I that others used.
abbrev pub KeptUp : {O : Type 0} (J : Jobs O) → ℕ → ℕ → ℕ → ℕ → J.State → ℕ → Type 0
KeptUp J m t r I j w = (c : ℕ) × J.Chain j w c × (m * t ≤ m * r + (J.own j + I + (m - 1) * c))

-- the chain ran in the tick: it and the job's own core-ticks grow by one at least
keeps_running : (p m t r o o' i i' s s' : ℕ) → m ≡ suc p → m * t ≤ m * r + (o + i + p * s) → o < o' → i ≤ i' → s < s'
    → m * suc t ≤ m * r + (o' + i' + p * s')
keeps_running p m t r o o' i i' s s' e h a b c = omega (arith, mul-le-mul_left p c)

-- the chain waited: all m cores ran the job's own nodes, or others
keeps_waiting : (p m t r o o' i i' s s' : ℕ) → m ≡ suc p → m * t ≤ m * r + (o + i + p * s) → o + i + m ≤ o' + i' → s ≤ s'
    → m * suc t ≤ m * r + (o' + i' + p * s')
keeps_waiting p m t r o o' i i' s s' e h a c = omega (arith, mul-le-mul_left p c)

-- a job with a ready node is younger than its bound
pub still_young : (p m t r o i c Z X R : ℕ) → m ≡ suc p → m * t ≤ m * r + (o + i + p * c) → p * (c + 1) + o + 1 ≤ Z → i ≤ X → Z + X < m * (R + 1) → t < r + R
still_young p m t r o i c Z X R e h weight others enough =
    elim (cases_lt t (r + R)) [ inl l ↦ l | inr l ↦ absurd (omega (arith, mul-le-mul_left m l)) ]

module _ {O : Type 0} (J : Jobs O) (m W Z : ℕ) (laws : JobLaws J m W Z) (cores : 1 ≤ m) (t r I I' : ℕ) (j : J.State) (ts : List (Turn O)) (sound : J.Sound j) (fair : Fair J j ts) (grown : I ≤ I') where
  some_turn : (v : ℕ) → 1 ≤ turns_of v ts → 1 ≤ length ts
  some_turn v h = omega (arith, count_if_length {X = Turn O} (λ u. eqb v u.node) ts)

  -- w was ready and ran, and is ready yet
  chain_ran : (w : ℕ) → J.Ready j w → J.Ready (J.advance j ts) w → 1 ≤ turns_of w ts → KeptUp J m t r I j w → KeptUp J m (suc t) r I' (J.advance j ts) w
  chain_ran w was is h p = (
    p.0 + turns_of w ts,
    laws.chain_stays j ts (sound, fair) w p.0 was is p.1,
    keeps_running (m - 1) m t r (J.own j) (J.own (J.advance j ts)) I I' p.0 (p.0 + turns_of w ts) (omega arith) p.2
        (omega (arith, laws.own_grows j ts (sound, fair), some_turn w h)) grown (omega arith),
  )

  -- v ran, and made w ready
  chain_longer : (v w : ℕ) → J.Ready j v → 1 ≤ turns_of v ts → J.Leads (J.advance j ts) v w → J.Ready (J.advance j ts) w → KeptUp J m t r I j v → KeptUp J m (suc t) r I' (J.advance j ts) w
  chain_longer v w was h leads is p = (
    p.0 + 1,
    laws.chain_leads j ts (sound, fair) v w p.0 was h leads is p.1,
    keeps_running (m - 1) m t r (J.own j) (J.own (J.advance j ts)) I I' p.0 (p.0 + 1) (omega arith) p.2
        (omega (arith, laws.own_grows j ts (sound, fair), some_turn v h)) grown (omega arith),
  )

  -- w was ready and waited
  chain_waited : (w : ℕ) → J.Ready j w → J.Ready (J.advance j ts) w → I + m ≤ I' + length ts → KeptUp J m t r I j w → KeptUp J m (suc t) r I' (J.advance j ts) w
  chain_waited w was is h p = (
    p.0 + turns_of w ts,
    laws.chain_stays j ts (sound, fair) w p.0 was is p.1,
    keeps_waiting (m - 1) m t r (J.own j) (J.own (J.advance j ts)) I I' p.0 (p.0 + turns_of w ts) (omega arith) p.2
        (omega (arith, laws.own_grows j ts (sound, fair))) (omega arith),
  )

  pub chains_keep_up :
      ((w : ℕ) → J.Ready j w → turns_of w ts ≡ 0 → I + m ≤ I' + length ts) →
      ((w : ℕ) → J.Ready j w → KeptUp J m t r I j w) → (w : ℕ) → J.Ready (J.advance j ts) w → KeptUp J m (suc t) r I' (J.advance j ts) w
  chains_keep_up waits chains w is = from (laws.step j ts (sound, fair) w is)
    where
      was_ready : J.Ready j w → KeptUp J m (suc t) r I' (J.advance j ts) w
      was_ready was =
          elim (cases_lt 0 (turns_of w ts)) [ inl l ↦ chain_ran w was is l (chains w was) | inr l ↦ chain_waited w was is (waits w was (omega arith)) (chains w was) ]

      from : J.Ready j w ⊎ ((v : ℕ) × (1 ≤ turns_of v ts) × J.Leads (J.advance j ts) v w) → KeptUp J m (suc t) r I' (J.advance j ts) w
      from (inl was) = was_ready was
      from (inr h) =
          let ran = turn_ready J j ts fair h.0 h.1 in
          chain_longer h.0 w ran h.1 h.2 is (chains h.0 ran)
