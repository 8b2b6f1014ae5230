-- What an order must show, over whom it lets ahead (`goes`) and how many at most (`most`). Assumes nothing.
use Rattle.std.specs.Prelude.{◌≡◌, ℕ, ◌<◌, ◌≤◌, Bool, true, ◌⊎◌, List, [], ◌∷◌, length, ℤ, pos, ◌+ℤ◌, neg_ℤ, ◌≤ℤ◌, ◌<ℤ◌, Some, None, Option}
use Rattle.std.specs.List.{AllByRecursion}
use Rattle.order.specs.declared.Party.{Party}

-- What an order means. `goes i k d`: a job of i that was released d ticks after one of k goes ahead of it.
-- `most i k R`: the cap on the jobs of i that go ahead of one job of k, where R is the bound of i
pub record Meaning : Type 0 where
  pub goes : Party → Party → ℤ → Bool
  pub most : Party → Party → ℕ → Option ℕ

-- a task that a controller can hold
pub record Lawful (p : Party) : Type 0 where
  pub slotted : p.slot < 16
  pub some_deadline : 1 ≤ p.deadline
  pub in_period : p.deadline ≤ p.period
  pub in_range : p.period ≤ 1000000

abbrev pub Different : Party → Party → Type 0
Different i k = i.slot ≡ k.slot → ⊥

-- the releases, the latest first, are at least T apart, and the latest is at least T before b
abbrev pub SpreadBefore : ℕ → ℤ → List ℤ → Type 0
SpreadBefore T b [] = Unit {0}
SpreadBefore T b (d ∷ ds) = ((d +ℤ pos T) ≤ℤ b) × SpreadBefore T d ds

abbrev pub Spread : ℕ → List ℤ → Type 0
Spread T [] = Unit {0}
Spread T (d ∷ ds) = SpreadBefore T d ds

-- the second cap is at least the first; no cap is the greatest
abbrev pub AtMost : Option ℕ → Option ℕ → Type 0
AtMost a None = Unit {0}
AtMost None (Some c) = ⊥
AtMost (Some b) (Some c) = b ≤ c

-- the four laws
pub record Orderly (goes : Party → Party → ℤ → Bool) (most : Party → Party → ℕ → Option ℕ) : Type 0 where
  -- of two jobs one goes ahead of the other
  pub total : (i k : Party) → Lawful i → Lawful k → Different i k → (d : ℤ) → (goes i k d ≡ true) ⊎ (goes k i (neg_ℤ d) ≡ true)
  -- what goes ahead of one that goes ahead of a third goes ahead of the third
  pub transitive : (i k l : Party) → Lawful i → Lawful k → Lawful l → Different i k → Different k l → Different i l
      → (d e : ℤ) → goes i k d ≡ true → goes k l e ≡ true → goes i l (d +ℤ e) ≡ true
  -- of jobs of i released at least a period apart, each later than R before one job of k, no more than the cap go ahead of it
  pub capped : (i k : Party) → Lawful i → Lawful k → Different i k → (R c : ℕ) → 1 ≤ R → R ≤ i.deadline → most i k R ≡ Some c
      → (ds : List ℤ) → Spread i.period ds → AllByRecursion (λ d. (neg_ℤ (pos R) <ℤ d) × (goes i k d ≡ true)) ds → length ds ≤ c
  -- the cap does not fall when the bound rises
  pub rising : (i k : Party) → Lawful i → Lawful k → Different i k → (R S : ℕ) → 1 ≤ R → R ≤ S → S ≤ i.deadline
      → AtMost (most i k R) (most i k S)
