-- Which ready node gets which core in a tick. Who is ready, who was kept from the tick closed last and whose job goes ahead of whose are
-- given: `ready s n` and `kept s n` speak of node n of the open job in slot s, `ahead i k` of the jobs in slots i and k. Assumes nothing.
use Rattle.std.specs.Prelude.{◌≡◌, ℕ, ◌<◌, ◌≤◌, ◌⊎◌, List, length, Some, None, Option}
use Rattle.dispatch.specs.declared.spot.Spot.{Spot}
use Rattle.dispatch.specs.Spots.{spot_at, HasCore}

-- the node is ready, and none of the cores below c got it
pub record Waits (ready : ℕ → ℕ → Type 0) (spots : List (Option Spot)) (c s n : ℕ) : Type 0 where
  pub is_ready : ready s n
  pub not_placed : HasCore spots c s n → ⊥

-- of the nodes that wait, it is one whose job goes ahead of the jobs of all
pub record MayCome (waits ahead : ℕ → ℕ → Type 0) (s n : ℕ) : Type 0 where
  pub waiting : waits s n
  pub leads : (k v : ℕ) → waits k v → ahead s k

-- of two nodes, the first is the kept one
pub record KeptAlone (kept : ℕ → ℕ → Type 0) (s n k v : ℕ) : Type 0 where
  pub this : kept s n
  pub not_that : kept k v → ⊥

-- both are kept or neither is
pub record KeptAlike (kept : ℕ → ℕ → Type 0) (s n k v : ℕ) : Type 0 where
  pub to : kept s n → kept k v
  pub from : kept k v → kept s n

-- node n of slot s comes before node v of slot k: a kept node first, then the smaller slot, then the smaller node
abbrev pub ComesBefore : (ℕ → ℕ → Type 0) → ℕ → ℕ → ℕ → ℕ → Type 0
ComesBefore kept s n k v = KeptAlone kept s n k v ⊎ (KeptAlike kept s n k v × ((s < k) ⊎ ((s ≡ k) × (n < v))))

-- it comes next: it may come, and before every other that may
pub record Next (waits kept ahead : ℕ → ℕ → Type 0) (s n : ℕ) : Type 0 where
  pub may : MayCome waits ahead s n
  pub before : (k v : ℕ) → MayCome waits ahead k v → ((k ≡ s) × (v ≡ n)) ⊎ ComesBefore kept s n k v

-- none may come
abbrev pub NoneMay : (ℕ → ℕ → Type 0) → (ℕ → ℕ → Type 0) → Type 0
NoneMay waits ahead = (s n : ℕ) → MayCome waits ahead s n → ⊥

-- core c got the node that comes next after those on the cores below c
pub record Gets (ready kept ahead : ℕ → ℕ → Type 0) (spots : List (Option Spot)) (c : ℕ) : Type 0 where
  pub got : Spot
  pub told : spot_at spots c ≡ Some got
  pub next : Next (Waits ready spots c) kept ahead got.slot got.node

-- cores are filled from core 0 up, as long as a node may come; the others are idle
pub record Placed (ready kept ahead : ℕ → ℕ → Type 0) (cores : ℕ) (spots : List (Option Spot)) (busy : ℕ) : Type 0 where
  pub sixteen : length spots ≡ 16
  pub few : busy ≤ cores
  pub filled : (c : ℕ) → c < busy → Gets ready kept ahead spots c
  pub no_more : busy < cores → NoneMay (Waits ready spots busy) ahead
  pub idle_else : (c : ℕ) → busy ≤ c → spot_at spots c ≡ None

-- the slot has a ready node
abbrev pub HasReady : (ℕ → ℕ → Type 0) → ℕ → Type 0
HasReady ready s = (n : ℕ) × ready s n

-- on the slots that have ready nodes: of two jobs one goes ahead (so a job of itself), and what goes ahead of one goes ahead of all that
-- one goes ahead of
pub record Orderly (ready ahead : ℕ → ℕ → Type 0) : Type 0 where
  pub total : (i k : ℕ) → HasReady ready i → HasReady ready k → ahead i k ⊎ ahead k i
  pub passes_on : (i k l : ℕ) → HasReady ready i → HasReady ready k → HasReady ready l → ahead i k → ahead k l → ahead i l

-- where a ready node gets no core, all cores are busy with nodes of jobs that go ahead of its job
pub record SparesNone (ready ahead : ℕ → ℕ → Type 0) (cores : ℕ) (spots : List (Option Spot)) (busy : ℕ) : Type 0 where
  pub all_busy : (k w : ℕ) → Waits ready spots cores k w → busy ≡ cores
  pub all_ahead : (k w : ℕ) → Waits ready spots cores k w → (c : ℕ) → c < cores → (p : Spot) → spot_at spots c ≡ Some p → ahead p.slot k

-- each core that is not idle runs a ready node, and no two the same
pub record EachOnce (ready : ℕ → ℕ → Type 0) (spots : List (Option Spot)) : Type 0 where
  pub ready_ones : (c : ℕ) (p : Spot) → spot_at spots c ≡ Some p → ready p.slot p.node
  pub once : (b c : ℕ) (p : Spot) → spot_at spots b ≡ Some p → spot_at spots c ≡ Some p → b ≡ c
