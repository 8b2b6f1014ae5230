-- Who goes ahead of whom among open jobs, as the order sees them. Assumes nothing.
use Rattle.std.specs.Prelude.{◌≡◌, ℕ, ◌<◌, Bool, true, ◌⊎◌, List, ℤ, pos, ◌-ℤ◌, Some, None, Option, slice_index_or}
use Rattle.order.specs.declared.Party.{Party}
use Rattle.controller.specs.declared.precedence.Entrant.{Entrant}

-- both slots have an open job, and the first's goes ahead
pub record FirstOfTwo (goes : Party → Party → ℤ → Bool) (open_jobs : List (Option Entrant)) (i k : ℕ) : Type 0 where
  pub first : Entrant
  pub other : Entrant
  pub first_open : slice_index_or open_jobs i None ≡ Some first
  pub other_open : slice_index_or open_jobs k None ≡ Some other
  pub goes_first : goes first.party other.party (pos other.age -ℤ pos first.age) ≡ true

-- and a job goes ahead of itself
abbrev pub AheadAmong : (Party → Party → ℤ → Bool) → List (Option Entrant) → ℕ → ℕ → Type 0
AheadAmong goes open_jobs i k = (k < 16) × ((i ≡ k) ⊎ FirstOfTwo goes open_jobs i k)
