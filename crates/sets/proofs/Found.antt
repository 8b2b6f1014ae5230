-- The first number that lacks a property, as `find` over a range tells it.
use Rattle.std.proofs.Common.{◌≡◌, ℕ, ◌≤◌, ◌<◌, Bool, true, false, List, Option, Some, None, arith}
use Rattle.std.proofs.iter.Yields.{nat_range_steps}
use Rattle.std.proofs.lemmas.Iterator.{first_from_Range}
use Rattle.std.specs.Bool.{⊤}
use Rattle.std.specs.Fn.{CalledAt}
use Rattle.std.specs.Iterator.{YieldsThen}
use Rattle.std.specs.List.{FoldsTo}
use Rattle.std.specs.Option.{MatchOption}
use Rattle.std.specs.declared.ops.Range.{Range}
use denote.Param.Members.{Mut}
use denote.Ref.{Bor}
use Rattle.sets.specs.Tests.{Tried}

tried : (P : ℕ → Type 0) (n : ℕ) (r : Option ℕ) → MatchOption r ((k : ℕ) → 0 ≤ k → k < n → P k) (λ i. (0 ≤ i) × (i < n) × (P i → ⊥) × ((k : ℕ) → 0 ≤ k → k < i → P k)) → Tried P n r
tried P n (Some i) found = record { within = found.1; fails = found.2; none_before = λ k l. found.3 k (omega arith) l }
tried P n None all = λ k l. all k (omega arith) l

-- `(0..n).find` with a test that is yes where the property is lacking
pub tried_from_find : {F : Type 0} {g : Mut F (Bor ℕ × Unit {0}) Bool} (P : ℕ → Type 0) (n : ℕ) (u : Range ℕ) (f : F) (r : Option ℕ) → (xs : List ℕ) × (j : F) × YieldsThen nat_range_steps (record { start = 0; end = n }) xs r u × FoldsTo (λ p x q. CalledAt g p x false q) f xs j × MatchOption r ⊤ (λ x. (h : F) × CalledAt g j x true h) → ((x : ℕ) (q : F) → CalledAt g f x true q → P x → ⊥) → ((x : ℕ) (q : F) → CalledAt g f x false q → (q ≡ f) × P x) → Tried P n r
tried_from_find P n u f r ran lacks has = tried P n r (first_from_Range (record { start = 0; end = n }) u f r (λ k. P k → ⊥) P ran lacks has)
