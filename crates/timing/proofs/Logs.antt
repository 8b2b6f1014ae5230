-- One tick, and one release, in the log of one slot.
use Rattle.std.proofs.Common.{◌≡◌, ℕ, zero, suc, ◌+◌, ◌*◌, ◌<◌, ◌≤◌, Bool, true, false, cond, eqb, List, [], ◌∷◌, ◌++◌, length, replicate, sym, refl, ap, subst, inl, inr, arith, length-append}
use Rattle.std.proofs.lemmas.List.{length-replicate}
use Rattle.std.proofs.lemmas.Bool.Decides.{nat_tests}
use Rattle.std.proofs.lemmas.Bool.{cases_eq}
use Rattle.std.specs.List.{AllByRecursion}
use Rattle.timing.specs.Counts.{bit, count_if, times}
use Rattle.timing.specs.Window.{Job, Fits, ApartBefore, Apart, in_window, used_ahead}
use Rattle.timing.specs.Run.{Done}

-- the jobs that have ended, as jobs
abbrev pub logged : List Done → List Job
logged [] = []
logged (d ∷ past) = record { released = d.released; spent = d.spent } ∷ logged past

pub all_replicate : (P : ℕ → Type 0) (c t : ℕ) (xs : List ℕ) → P t → AllByRecursion P xs → AllByRecursion P (replicate c t ++ xs)
all_replicate P zero t xs h a = a
all_replicate P (suc c) t xs h a = (h, all_replicate P c t xs h a)

pub all_weaker : {X : Type 0} (P Q : X → Type 0) → ((x : X) → P x → Q x) → (xs : List X) → AllByRecursion P xs → AllByRecursion Q xs
all_weaker P Q h [] a = tt
all_weaker P Q h (x ∷ xs) a = (h x a.0, all_weaker P Q h xs a.1)

pub count_if_replicate : (p : ℕ → Bool) (c t : ℕ) (xs : List ℕ) → count_if p (replicate c t ++ xs) ≡ c * bit (p t) + count_if p xs
count_if_replicate p zero t xs = omega arith
count_if_replicate p (suc c) t xs = omega (arith, count_if_replicate p c t xs)

-- what stands before t does not hold t
times_later : (t : ℕ) (xs : List ℕ) → AllByRecursion (λ x. x < t) xs → times t xs ≡ 0
times_later t [] a = refl
times_later t (x ∷ xs) a = omega (arith, differs x a.0, times_later t xs a.1)
  where
    differs : (z : ℕ) → z < t → bit (eqb t z) ≡ 0
    differs z h = grind (arith, nat_tests)

bit_same : (t : ℕ) → bit (eqb t t) ≡ 1
bit_same t = grind (arith, nat_tests)

bit_other : (t u : ℕ) → (u ≡ t → ⊥) → bit (eqb u t) ≡ 0
bit_other t u h = grind (arith, nat_tests)

pub narrow_more : (m c t : ℕ) (xs : List ℕ) → c ≤ m → AllByRecursion (λ x. x < t) xs → ((u : ℕ) → times u xs ≤ m) → (u : ℕ) → times u (replicate c t ++ xs) ≤ m
narrow_more m c t xs h a narrow u =
    elim (cases_eq u t) [ inl e ↦ subst (λ (v : ℕ). times v (replicate c t ++ xs) ≤ m) (sym e) same | inr ne ↦ other ne ]
  where
    same : times t (replicate c t ++ xs) ≤ m
    same = omega (arith, count_if_replicate (eqb t) c t xs, ap (λ b. c * b) (bit_same t), times_later t xs a)

    other : (u ≡ t → ⊥) → times u (replicate c t ++ xs) ≤ m
    other ne = omega (arith, count_if_replicate (eqb u) c t xs, ap (λ b. c * b) (bit_other t u ne), narrow u)

pub length_more : (c t : ℕ) (xs : List ℕ) → length (replicate c t ++ xs) ≡ c + length xs
length_more c t xs = omega (arith, length-append (replicate c t) xs, length-replicate c t)

pub fits_more : (m W R c t r : ℕ) (sp : List ℕ) → c ≤ m → c + length sp ≤ W → r ≤ t → t < r + R → AllByRecursion (λ x. x < t) sp →
    Fits m W R (record { released = r; spent = sp }) → Fits m W R (record { released = r; spent = replicate c t ++ sp })
fits_more m W R c t r sp few short born young earlier fit =
    record {
      inside = all_replicate (λ u. (r ≤ u) × (u < r + R)) c t sp (born, young) fit.inside;
      narrow = narrow_more m c t sp few earlier fit.narrow;
      short = omega (arith, length_more c t sp);
    }

inside_window : (a n t : ℕ) → a ≤ t → t < a + n → bit (in_window a n t) ≡ 1
inside_window a n t h k = grind (arith, nat_tests)

module _ (a n : ℕ) (ahead : ℕ → Bool) (c t r : ℕ) (sp : List ℕ) where
  -- more ticks never take from what a job used
  pub used_kept : used_ahead ahead a n (record { released = r; spent = sp }) ≤ used_ahead ahead a n (record { released = r; spent = replicate c t ++ sp })
  used_kept = go (ahead r)
    where
      go : (b : Bool) → cond b (count_if (in_window a n) sp) 0 ≤ cond b (count_if (in_window a n) (replicate c t ++ sp)) 0
      go true = omega (arith, count_if_replicate (in_window a n) c t sp)
      go false = omega arith

  -- the ticks of a job ahead count
  pub used_grows : a ≤ t → t < a + n → ahead r ≡ true → used_ahead ahead a n (record { released = r; spent = sp }) + c ≤ used_ahead ahead a n (record { released = r; spent = replicate c t ++ sp })
  used_grows from to passes = go (ahead r) passes
    where
      all : count_if (in_window a n) sp + c ≤ count_if (in_window a n) (replicate c t ++ sp)
      all = omega (arith, count_if_replicate (in_window a n) c t sp, ap (λ b. c * b) (inside_window a n t from to))

      go : (b : Bool) → b ≡ true → cond b (count_if (in_window a n) sp) 0 + c ≤ cond b (count_if (in_window a n) (replicate c t ++ sp)) 0
      go true e = all
      go false e = grind arith

-- ---- a release

-- every earlier release is at least T before t
pub before_now : (T t : ℕ) (past : List Done) → AllByRecursion (λ d. d.released + T ≤ t) past → Apart T (logged past) → ApartBefore T t (logged past)
before_now T t [] free sp = tt
before_now T t (d ∷ past) free sp = (free.0, sp)
