-- Nodes side by side keep the laws of jobs.
use Rattle.std.proofs.Common.{◌≡◌, ℕ, zero, suc, ◌+◌, ◌-◌, ◌*◌, ◌<◌, ◌≤◌, Bool, true, false, ◌&&◌, eqb, ltb, leb, List, [], ◌∷◌, length, refl, ap, ◌∙◌, inl, inr, arith}
use Rattle.std.proofs.lemmas.Bool.Decides.{nat_tests}
use Rattle.std.proofs.lemmas.Bool.{cases_lt, cases_eq, and_parts, and_from, le-leb, leb-true, leb-false, ltb-true, eqb-true}
use Rattle.bounds.specs.Equation.{sum_to}
use Rattle.bounds.proofs.Sums.{sum_small}
use Rattle.timing.specs.Counts.{bit, all_below}
use Rattle.timing.specs.Jobs.{LawsIn, Turn, turns_of}
use Rattle.timing.specs.Statements.{jobs_of}
use Rattle.timing.specs.Example.{lanes}
use Rattle.timing.specs.Freely.{ReadyOnce}
use Rattle.timing.proofs.Weights.{weighs, work_weighs}
use Rattle.timing.proofs.Counting.{sum_to_add, sum_to_none, sum_to_split, others_mono, one_node}

-- ---- tests over the numbers below a bound

all_have : (n : ℕ) (p : ℕ → Bool) → all_below n p ≡ true → (v : ℕ) → v < n → p v ≡ true
all_have zero p h v l = absurd (omega arith)
all_have (suc n) p h v l =
    let parts = and_parts (p n) (all_below n p) h in
    elim (cases_eq v n) [ inl e ↦ ap p e ∙ parts.0 | inr ne ↦ all_have n p parts.1 v (omega arith) ]

all_made : (n : ℕ) (p : ℕ → Bool) → ((v : ℕ) → v < n → p v ≡ true) → all_below n p ≡ true
all_made zero p h = refl
all_made (suc n) p h = and_from (p n) (all_below n p) (h n (omega arith)) (all_made n p (λ v l. h v (omega arith)))

some_fails : (n : ℕ) (p : ℕ → Bool) → all_below n p ≡ false → (w : ℕ) × (w < n) × (p w ≡ false)
some_fails zero p h = absurd (grind arith)
some_fails (suc n) p h = go (p n) refl h (some_fails n p)
  where
    go : (b : Bool) → p n ≡ b → (b && all_below n p) ≡ false → (all_below n p ≡ false → (w : ℕ) × (w < n) × (p w ≡ false)) → (w : ℕ) × (w < suc n) × (p w ≡ false)
    go false e f rest = (n, omega arith, e)
    go true e f rest = let r = rest f in (r.0, omega (arith, r.1), r.2)

-- ---- sums

sum_const : (n c : ℕ) → sum_to n (λ v. c) ≡ n * c
unfolding sum_to
sum_const zero c = omega arith
sum_const (suc n) c = omega (arith, sum_const n c)

sum_smaller : (n c w : ℕ) (f : ℕ → ℕ) → ((v : ℕ) → v < n → f v ≤ c) → w < n → f w < c → sum_to n f < n * c
sum_smaller n c w f h l k =
    omega (arith, sum_to_split n w f l, sum_to_split n w (λ v. c) l, others_mono n w f (λ v. c) (λ i il ne. h i il), sum_const n c)

-- each turn is some node's
turns_all : {O : Type 0} (n : ℕ) (ts : List (Turn O)) → ((v : ℕ) → 1 ≤ turns_of v ts → v < n) → sum_to n (λ v. turns_of v ts) ≡ length ts
turns_all n [] h = sum_to_none n
turns_all n (t ∷ ts) h =
    omega (
      arith,
      sum_to_add n (λ v. bit (eqb v t.node)) (λ v. turns_of v ts),
      one_node n t.node (h t.node (omega (arith, same t.node))),
      turns_all n ts (λ v k. h v (omega arith)),
    )
  where
    same : (v : ℕ) → bit (eqb v v) ≡ 1
    same v = grind (arith, nat_tests)

-- ---- tests

ready_made : (w n x c : ℕ) → w < n → x < c → (ltb w n && ltb x c) ≡ true
ready_made w n x c h k = grind (arith, nat_tests)

ready_parts : (w n x c : ℕ) → (ltb w n && ltb x c) ≡ true → (w < n) × (x < c)
ready_parts w n x c h = let parts = and_parts (ltb w n) (ltb x c) h in (ltb-true w n parts.0, ltb-true x c parts.1)

same_more : (a x t : ℕ) → eqb a x ≡ true → eqb (a + t) (x + t) ≡ true
same_more a x t h = grind (arith, nat_tests)

module _ (m n c : ℕ) (long : 1 ≤ c) where
  parts : (j : ℕ → ℕ) → all_below n (λ v. leb (j v) c) ≡ true → (v : ℕ) → v < n → j v ≤ c
  parts j sound v l = leb-true (j v) c (all_have n (λ u. leb (j u) c) sound v l)

  -- the state is sound, and each node that has a turn has one and is ready
  abbrev pub LaneTicks : (j : ℕ → ℕ) → List (Turn ℕ) → Type 0
  LaneTicks j ts = (all_below n (λ v. leb (j v) c) ≡ true) × ReadyOnce (λ w. (ltb w n && ltb (j w) c) ≡ true) ts

  within : (j : ℕ → ℕ) (ts : List (Turn ℕ)) → LaneTicks j ts → (v : ℕ) → v < n → j v + turns_of v ts ≤ c
  within j ts h v l =
      elim (cases_lt 0 (turns_of v ts)) [
        | inl t ↦ omega (arith, (h.1 v).0, (ready_parts v n (j v) c ((h.1 v).1 t)).1)
        | inr t ↦ omega (arith, parts j h.0 v l)
      ]

  pub lanes_laws : LawsIn (jobs_of (lanes n c)) LaneTicks m (n * c) ((m - 1) * c + n * c)
  lanes_laws =
      record {
        fresh_sound = all_made n (λ v. leb 0 c) (λ v l. le-leb 0 c (omega arith));
        fresh_own = sum_to_none n;
        fresh_chain = λ w ready. refl;
        stays_sound = λ j ts h. all_made n (λ v. leb (j v + turns_of v ts) c) (λ v l. le-leb (j v + turns_of v ts) c (within j ts h v l));
        own_grows = λ j ts h. omega (arith, sum_to_add n j (λ v. turns_of v ts), turns_all n ts (λ v t. (ready_parts v n (j v) c ((h.1 v).1 t)).0));
        own_in_work = λ j sound. sum_small n c j (parts j sound);
        progress = λ j sound going.
            let f = some_fails n (λ v. leb c (j v)) going in
            (f.0, ready_made f.0 n (j f.0) c f.1 (leb-false c (j f.0) f.2));
        step = λ j ts h w ready.
            let r = ready_parts w n (j w + turns_of w ts) c ready in
            inl (ready_made w n (j w) c r.0 (omega (arith, r.1)));
        chain_stays = λ j ts h w a was is chain. same_more a (j w) (turns_of w ts) chain;
        chain_leads = λ j ts h v w a was t leads is chain. absurd (grind arith);
        close = λ j sound w a ready chain.
            let r = ready_parts w n (j w) c ready in
            weighs m c (n * c) a (sum_to n j) (omega (arith, r.1, eqb-true a (j w) chain)) (omega (arith, sum_smaller n c w j (parts j sound) r.0 r.1));
        work_in_weight = work_weighs m c (n * c) long;
      }
