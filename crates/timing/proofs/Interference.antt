-- What the jobs that go ahead of one job can use while it is open.
use Rattle.std.proofs.Common.{◌≡◌, ℕ, suc, ◌+◌, ◌-◌, ◌*◌, ◌<◌, ◌≤◌, min, Bool, true, false, cond, ◌&&◌, ltb, List, [], ◌∷◌, length, ℤ, pos, ◌+ℤ◌, ◌-ℤ◌, neg_ℤ, ◌≤ℤ◌, ◌<ℤ◌, Some, None, Option, sym, refl, subst, inl, inr, mul-le-mul_left, arith}
use Rattle.std.proofs.lemmas.Int.{ints}
use Rattle.std.proofs.lemmas.Bool.{cases_lt, ltb-true}
use Rattle.std.specs.List.{AllByRecursion}
use Rattle.order.specs.Laws.{Different, SpreadBefore, Spread}
use Rattle.bounds.specs.Equation.{sum_to, apart_from, capped, jobs_in}
use Rattle.timing.specs.Counts.{bit, count_if, sum_of}
use Rattle.timing.specs.Window.{Job, Fits, ApartBefore, Apart, used_ahead, reaches}
use Rattle.timing.specs.System.{Plan, Held, Bounded, share}
use Rattle.timing.proofs.Counting.{others_mono}
use Rattle.timing.proofs.Windows.{window_bounded, ahead_bounded, ahead_le_all}

-- ---- releases as differences

-- the releases after a of the jobs that pass, as differences to a
abbrev chosen : (Job → Bool) → ℕ → List Job → List ℤ
chosen p a [] = []
chosen p a (j ∷ js) = cond (p j) ((pos j.released -ℤ pos a) ∷ chosen p a js) (chosen p a js)

length_chosen : (p : Job → Bool) (a : ℕ) (js : List Job) → length (chosen p a js) ≡ count_if p js
length_chosen p a [] = refl
length_chosen p a (j ∷ js) = go (p j) (length_chosen p a js)
  where
    go : (b : Bool) → length (chosen p a js) ≡ count_if p js → length (cond b ((pos j.released -ℤ pos a) ∷ chosen p a js) (chosen p a js)) ≡ bit b + count_if p js
    go true e = omega arith
    go false e = omega arith

difference_apart : (a b r T : ℕ) → r + T ≤ b → ((pos r -ℤ pos a) +ℤ pos T) ≤ℤ (pos b -ℤ pos a)
difference_apart a b r T h = omega (arith, ints)

difference_late : (a r R : ℕ) → a < r + R → neg_ℤ (pos R) <ℤ (pos r -ℤ pos a)
difference_late a r R h = omega (arith, ints)

before_later : (T b c : ℕ) (js : List Job) → b ≤ c → ApartBefore T b js → ApartBefore T c js
before_later T b c [] h sp = tt
before_later T b c (j ∷ js) h sp = (omega (arith, sp.0), sp.1)

chosen_before : (p : Job → Bool) (a T b : ℕ) (js : List Job) → ApartBefore T b js → SpreadBefore T (pos b -ℤ pos a) (chosen p a js)
chosen_before p a T b [] sp = tt
chosen_before p a T b (j ∷ js) sp = go (p j) (chosen_before p a T j.released js sp.1) (chosen_before p a T b js (before_later T j.released b js (omega (arith, sp.0)) sp.1))
  where
    go : (t : Bool) → SpreadBefore T (pos j.released -ℤ pos a) (chosen p a js) → SpreadBefore T (pos b -ℤ pos a) (chosen p a js) → SpreadBefore T (pos b -ℤ pos a) (cond t ((pos j.released -ℤ pos a) ∷ chosen p a js) (chosen p a js))
    go true h k = (difference_apart a b j.released T sp.0, h)
    go false h k = k

before_spread : (T : ℕ) (b : ℤ) (ds : List ℤ) → SpreadBefore T b ds → Spread T ds
before_spread T b [] sp = tt
before_spread T b (d ∷ ds) sp = sp.1

chosen_spread : (p : Job → Bool) (a T : ℕ) (js : List Job) → Apart T js → Spread T (chosen p a js)
chosen_spread p a T [] sp = tt
chosen_spread p a T (j ∷ js) sp = before_spread T (pos (j.released + T) -ℤ pos a) (chosen p a (j ∷ js)) (chosen_before p a T (j.released + T) (j ∷ js) (omega arith, sp))

module _ (test : ℤ → Bool) (a R : ℕ) where
  abbrev ahead : ℕ → Bool
  ahead r = test (pos r -ℤ pos a)

  chosen_ahead : (js : List Job) → AllByRecursion (λ d. (neg_ℤ (pos R) <ℤ d) × (test d ≡ true)) (chosen (reaches ahead a R) a js)
  chosen_ahead [] = tt
  chosen_ahead (j ∷ js) = go (ltb a (j.released + R)) (test (pos j.released -ℤ pos a)) refl refl (chosen_ahead js)
    where
      go : (l t : Bool) → ltb a (j.released + R) ≡ l → test (pos j.released -ℤ pos a) ≡ t →
          AllByRecursion (λ d. (neg_ℤ (pos R) <ℤ d) × (test d ≡ true)) (chosen (reaches ahead a R) a js) →
          AllByRecursion (λ d. (neg_ℤ (pos R) <ℤ d) × (test d ≡ true)) (cond (l && t) ((pos j.released -ℤ pos a) ∷ chosen (reaches ahead a R) a js) (chosen (reaches ahead a R) a js))
      go true true e f h = ((difference_late a j.released R (ltb-true a (j.released + R) e), f), h)
      go true false e f h = h
      go false true e f h = h
      go false false e f h = h

-- ---- the interference

-- the open job of slot k was released at r: whether a job of slot i released at q goes ahead of it
abbrev pub goes_ahead : Plan → ℕ → ℕ → ℕ → ℕ → Bool
goes_ahead p k r i q = p.goes (p.party i) (p.party k) (pos q -ℤ pos r)

-- what the log of slot i holds of jobs that go ahead of a job of slot k released at r, in its window
abbrev pub ahead_in : Plan → ℕ → ℕ → ℕ → List Job → ℕ
ahead_in p k r i jobs = sum_of (used_ahead (goes_ahead p k r i) r (p.bound k)) jobs

abbrev pub interference : Plan → (ℕ → List Job) → ℕ → ℕ → ℕ
interference p logs k r = sum_to p.slots (apart_from k (λ i. ahead_in p k r i (logs i)))

-- of the jobs of a slot that holds a task
abbrev pub LogOk : Plan → ℕ → List Job → Type 0
LogOk p i jobs = Apart (p.party i).period jobs × AllByRecursion (Fits p.cores (p.work i) (p.bound i)) jobs

-- of the jobs of any slot: where it holds no task there are none
abbrev pub LogFine : Plan → ℕ → List Job → Type 0
LogFine p i jobs = (p.holds i ≡ true → LogOk p i jobs) × (p.holds i ≡ false → jobs ≡ [])

at_most_min : (x W c q : ℕ) → x ≤ W * c → x ≤ W * q → x ≤ W * min c q
at_most_min x W c q h k =
    elim (cases_lt c q) [
      | inl l ↦ (let e : min c q ≡ c = omega arith in rw e h)
      | inr l ↦ (let e : min c q ≡ q = omega arith in rw e k)
    ]

at_most_capped : (o : Option ℕ) (x W q : ℕ) → ((c : ℕ) → o ≡ Some c → x ≤ W * c) → x ≤ W * q → x ≤ W * capped o q
at_most_capped None x W q h k = k
at_most_capped (Some c) x W q h k = at_most_min x W c q (h c refl) k

-- the work fits into the bound
work_fits : (d m W Z X R : ℕ) → m ≡ suc d → W + d ≤ Z → Z + X < m * (R + 1) → W ≤ m * R
work_fits d m W Z X R e h l = omega arith

module _ (p : Plan) (law : Bounded p) (fits : (k : ℕ) → Held p k → p.work k + (p.cores - 1) ≤ p.weight k) where
  pub work_in_bound : (k : ℕ) → Held p k → p.work k ≤ p.cores * p.bound k
  work_in_bound k h =
      work_fits (p.cores - 1) p.cores (p.work k) (p.weight k) (sum_to p.slots (apart_from k (share p k))) (p.bound k)
      (omega (arith, law.some_core)) (fits k h) (law.enough k h)

  pub bound_period : (k : ℕ) → Held p k → p.bound k ≤ (p.party k).period
  bound_period k h = omega (arith, law.in_deadline k h, (law.lawful k h).in_period)

  different : (i k : ℕ) → Held p i → Held p k → (i ≡ k → ⊥) → Different (p.party i) (p.party k)
  different i k a b ne e = ne (omega (arith, law.in_slot i a, law.in_slot k b))

  held_bounds : (k i r : ℕ) (jobs : List Job) → Held p k → Held p i → (i ≡ k → ⊥) → LogOk p i jobs
      → ahead_in p k r i jobs ≤ p.work i * capped (p.most (p.party i) (p.party k) (p.bound i)) (jobs_in p.cores (p.party i).period (p.work i) (p.bound k + p.bound i))
  held_bounds k i r jobs hk hi ne ok =
      at_most_capped (p.most (p.party i) (p.party k) (p.bound i)) (ahead_in p k r i jobs) (p.work i) (jobs_in p.cores (p.party i).period (p.work i) (p.bound k + p.bound i))
      (λ c e.
      ahead_bounded p.cores (p.bound i) (p.work i) r (p.bound k) c (goes_ahead p k r i) jobs ok.1
      (omega (
        arith,
        length_chosen (reaches (goes_ahead p k r i) r (p.bound i)) r jobs,
        law.orderly.capped (p.party i) (p.party k) (law.lawful i hi) (law.lawful k hk) (different i k hi hk ne) (p.bound i) c (law.some_bound i hi) (law.in_deadline i hi) e
            (chosen (reaches (goes_ahead p k r i) r (p.bound i)) r jobs)
            (chosen_spread (reaches (goes_ahead p k r i) r (p.bound i)) r (p.party i).period jobs ok.0)
            (chosen_ahead (p.goes (p.party i) (p.party k)) r (p.bound i) jobs),
      )))
      (omega (
        arith,
        ahead_le_all (goes_ahead p k r i) r (p.bound k) jobs,
        window_bounded p.cores (p.party i).period (p.bound i) (p.work i) r (p.bound k) jobs law.some_core
            (omega (arith, bound_period i hi, law.some_bound i hi))
            (omega (arith, work_in_bound i hi, mul-le-mul_left p.cores (bound_period i hi)))
            (work_in_bound i hi) (law.some_bound k hk) ok.0 ok.1,
      ))

  share_bounds : (k i r : ℕ) (jobs : List Job) → Held p k → i < p.slots → (i ≡ k → ⊥) → LogFine p i jobs → ahead_in p k r i jobs ≤ share p k i
  share_bounds k i r jobs hk n ne ok = go (p.holds i) refl
    where
      go : (b : Bool) → p.holds i ≡ b → ahead_in p k r i jobs ≤ cond b (p.work i * capped (p.most (p.party i) (p.party k) (p.bound i)) (jobs_in p.cores (p.party i).period (p.work i) (p.bound k + p.bound i))) 0
      go true e = held_bounds k i r jobs hk (n, e) ne (ok.0 e)
      go false e = subst (λ (js : List Job). ahead_in p k r i js ≤ 0) (sym (ok.1 e)) (omega arith)

  pub interference_bounded : (logs : ℕ → List Job) (k r : ℕ) → Held p k → ((i : ℕ) → i < p.slots → LogFine p i (logs i)) → interference p logs k r ≤ sum_to p.slots (apart_from k (share p k))
  interference_bounded logs k r hk ok =
      others_mono p.slots k (λ i. ahead_in p k r i (logs i)) (share p k) (λ i n ne. share_bounds k i r (logs i) hk n ne (ok i n))
