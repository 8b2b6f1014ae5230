-- Tests of each number below a bound.
use Rattle.std.proofs.Common.{◌≡◌, ℕ, ◌<◌, Bool, true, false, not, List, length, get_or, Option, Some, None, sym, refl, subst, arith}
use Rattle.std.proofs.iter.Yields.{nat_range_steps}
use Rattle.std.proofs.lemmas.Iterator.{cases_from_all, YieldsList-from_range}
use Rattle.std.proofs.lemmas.List.FromFn.{get_or-range_with_len, length-range_with_len}
use Rattle.std.specs.Bool.{⊤, MatchBool}
use Rattle.std.specs.Fn.{Called, CalledAt}
use Rattle.std.specs.Iterator.{YieldsThen}
use Rattle.std.specs.List.{AllWithin, FoldsTo, HoldsAt, range_with_len}
use Rattle.std.specs.Option.{MatchOption}
use Rattle.std.specs.declared.ops.Range.{Range}
use denote.Param.Members.{Mut}
use denote.Ref.{Bor}
use Rattle.sets.proofs.Found.{tried_from_find}
use Rattle.sets.specs.Tests.{Says, Tried}
use Rattle.task.proofs.Apart.{false_not_true}

-- What is tried of P is tried of what holds just where P does.
pub tried_like : {P Q : ℕ → Type 0} {n : ℕ} (r : Option ℕ) → ((k : ℕ) → k < n → P k → Q k) → ((k : ℕ) → k < n → Q k → P k) → Tried P n r → Tried Q n r
tried_like (Some k) f g t =
    record { within = t.within; fails = λ q. t.fails (g k t.within q); none_before = λ j l. let less = t.within in f j (omega arith) (t.none_before j l) }
tried_like None f g t = λ k l. f k l (t k l)

-- `(0..n).all` with a test that tells of each number whether P holds
pub told_by_all : {F : Type 0} {g : Mut F (ℕ × Unit {0}) Bool} (P : ℕ → Type 0) (n : ℕ) (u : Range ℕ) (f : F) (r : Bool)
    → (xs : List ℕ) × (o : Option ℕ) × (j : F) × YieldsThen nat_range_steps (record { start = 0; end = n }) xs o u × FoldsTo (λ p x q. Called g p (x, tt) true q) f xs j × MatchOption o (r ≡ true) (λ x. (r ≡ false) × ((h : F) × Called g j (x, tt) false h))
    → ((x : ℕ) (q : F) → Called g f (x, tt) true q → (q ≡ f) × P x) → ((x : ℕ) (q : F) → Called g f (x, tt) false q → P x → ⊥) → Says r ((k : ℕ) → k < n → P k)
told_by_all P n u f r ran has lacks = by r (cases_from_all u f r P (λ k. P k → ⊥) ran (YieldsList-from_range 0 n n refl (omega arith)) has lacks)
  where
    all : List ℕ
    all = range_with_len 0 n

    at : (k : ℕ) → k < n → get_or all k 0 ≡ k
    at k l = let e = get_or-range_with_len 0 n k 0 l in omega (arith, e)

    long : length all ≡ n
    long = length-range_with_len 0 n

    by : (b : Bool) → MatchBool b (AllWithin P all 0 (length all)) ((k : ℕ) × (k < length all) × HoldsAt (λ x. P x → ⊥) all k) → Says b ((k : ℕ) → k < n → P k)
    by true h = λ k l. subst P (at k l) (h k 0 (omega arith) (omega (arith, long)))
    by false h = λ every. h.2 0 (subst P (sym (at h.0 (omega (arith, long, h.1)))) (every h.0 (omega (arith, long, h.1))))

-- `(0..n).find` with the denial of a test of P
pub tried_by_test : {F : Type 0} {g : Mut F (Bor ℕ × Unit {0}) Bool} (P : ℕ → Type 0) (n : ℕ) (u : Range ℕ) (f : F) (r : Option ℕ)
    → (xs : List ℕ) × (j : F) × YieldsThen nat_range_steps (record { start = 0; end = n }) xs r u × FoldsTo (λ p x q. CalledAt g p x false q) f xs j × MatchOption r ⊤ (λ x. (h : F) × CalledAt g j x true h)
    → ((x : ℕ) (b : Bool) (q : F) → CalledAt g f x b q → (q ≡ f) × ((told : Bool) × Says told (P x) × (b ≡ not told))) → Tried P n r
tried_by_test P n u f r ran test =
    tried_from_find P n u f r ran (λ x q k. lacks x (test x true q k).1) (λ x q k. let t = test x false q k in (t.0, has x t.1))
  where
    lacks : (x : ℕ) → (told : Bool) × Says told (P x) × (true ≡ not told) → P x → ⊥
    lacks x (true, p, e) = false_not_true (sym e)
    lacks x (false, h, e) = h

    has : (x : ℕ) → (told : Bool) × Says told (P x) × (false ≡ not told) → P x
    has x (true, p, e) = p
    has x (false, h, e) = false_not_true e
