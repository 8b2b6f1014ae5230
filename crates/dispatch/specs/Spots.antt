-- What the cores run, and how a core list tells it.
use Rattle.std.specs.Prelude.{◌≡◌, ℕ, ◌+◌, ◌*◌, ◌<◌, ◌≤◌, List, length, Some, None, Option, slice_index, slice_index_or}
use Rattle.dispatch.specs.declared.spot.Spot.{Spot}

-- node n of the open job in slot s
abbrev pub spot : ℕ → ℕ → Spot
spot s n = record { slot = s; node = n }

-- what core c runs
abbrev pub spot_at : List (Option Spot) → ℕ → Option Spot
spot_at spots c = slice_index_or spots c None

-- one of the cores below c runs node n of slot s
abbrev pub HasCore : List (Option Spot) → ℕ → ℕ → ℕ → Type 0
HasCore spots c s n = (b : ℕ) × (b < c) × (spot_at spots b ≡ Some (spot s n))

-- how a core list tells a node, and an idle core
abbrev pub number : Spot → ℕ
number p = 256 * p.slot + p.node

abbrev pub told : Option Spot → ℕ
told (Some p) = number p
told None = 65535

-- the list tells what each of the cores runs, and beyond them is as it was before
pub record Written (spots : List (Option Spot)) (cores : ℕ) (before list : List ℕ) : Type 0 where
  pub as_long : length list ≡ length before
  pub tells : (c : ℕ) → c < cores → slice_index list c ≡ told (spot_at spots c)
  pub beyond : (c : ℕ) → cores ≤ c → slice_index list c ≡ slice_index before c
