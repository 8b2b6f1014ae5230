-- The equation that the bounds of a plan meet, and which bounds are the answer. Assumes nothing.
use Rattle.std.specs.Prelude.{◌≡◌, ℕ, zero, suc, ◌+◌, ◌-◌, ◌*◌, ◌/◌, ◌<◌, ◌≤◌, min, cond, List, map, length, Some, None, Ok, Err, Option, Result, ◌==◌, slice_index, slice_index_or, slice_set}
use Rattle.order.specs.declared.Party.{Party}
use Rattle.bounds.specs.declared.plan.Demand.{Demand}
use Rattle.bounds.specs.declared.plan.Plan.{Plan}
use Rattle.bounds.specs.declared.rise.Passed.{Passed}

-- the quotient rounded up
abbrev pub div_ceil : ℕ → ℕ → ℕ
div_ceil a b = (a + (b - 1)) / b

-- the sum of f i over i < n
unfoldable pub sum_to : ℕ → (ℕ → ℕ) → ℕ
sum_to zero f = 0
sum_to (suc n) f = f n + sum_to n f

-- f with 0 at k: `sum_to n (apart_from k f)` is the sum over the others
abbrev pub apart_from : ℕ → (ℕ → ℕ) → ℕ → ℕ
apart_from k f i = cond (i == k) 0 (f i)

-- an order's caps, from two tasks and the bound of the first: how many jobs of the first go ahead of one of the second
abbrev pub Caps : Type 0
Caps = Party → Party → ℕ → Option ℕ

-- the smaller of a number and the cap, if there is one
abbrev pub capped : Option ℕ → ℕ → ℕ
capped None n = n
capped (Some c) n = min c n

-- the task in a slot, and its bound
abbrev pub held : Plan → ℕ → Option Demand
held p k = slice_index_or p.slots k None

abbrev pub bound : List ℕ → ℕ → ℕ
bound R k = slice_index R k

abbrev pub party_of : ℕ → Demand → Party
party_of k d = record { slot = k; period = d.period; deadline = d.deadline }

-- the order's cap on the jobs of the task e of slot i ahead of one of the task d of slot k
abbrev pub cap_of : Caps → List ℕ → ℕ → Demand → ℕ → Demand → Option ℕ
cap_of most R k d i e = most (party_of i e) (party_of k d) (bound R i)

-- how many jobs of a task of total W and period T count whole ahead of one job on m cores
abbrev pub jobs_in : (m T W window : ℕ) → ℕ
jobs_in m T W window = div_ceil (m * window - W) (m * T)

-- what a task of total W and period T uses ahead of one job on m cores, where its bound and the job's add up to the window
abbrev pub work_ahead_of : (m W T : ℕ) → Option ℕ → (window : ℕ) → ℕ
work_ahead_of m W T cap window = W * capped cap (div_ceil (m * window - W) (m * T))

abbrev pub share : (m : ℕ) → (Demand → Option ℕ) → (window : ℕ) → Option Demand → ℕ
share m cap window None = 0
share m cap window (Some e) = work_ahead_of m e.total e.period (cap e) window

-- the share of slot i in what delays slot k: none where it is k or empty
abbrev pub share_apart : (ℕ → Demand → Option ℕ) → Plan → List ℕ → ℕ → ℕ → ℕ
share_apart cap p R k i = cond (i == k) 0 (share p.cores (cap i) (bound R k + bound R i) (held p i))

-- what the others use ahead of one job of slot k, in all
abbrev pub interference : (ℕ → Demand → Option ℕ) → Plan → List ℕ → ℕ → ℕ
interference cap p R k = sum_to 16 (share_apart cap p R k)

-- a task's longest path, and the rest of its work and the others' spread over the cores
abbrev pub spread : (m L W others : ℕ) → ℕ
spread m L W others = L + div_ceil ((W - L) + others) m

-- the same for the task d of slot k, with these caps on the others
abbrev pub side : (ℕ → Demand → Option ℕ) → Plan → List ℕ → ℕ → Demand → ℕ
side cap p R k d = spread p.cores d.longest d.total (interference cap p R k)

-- the right side of the equation: the caps are the order's
abbrev pub right_side : Caps → Plan → List ℕ → ℕ → Demand → ℕ
right_side most p R k d = side (cap_of most R k d) p R k d

-- bounds for all the tasks at once that meet the equation and the deadlines; 0 where there is no task
pub record Solves (most : Caps) (p : Plan) (R : List ℕ) : Type 0 where
  pub sized : length R ≡ 16
  pub empty : (k : ℕ) → k < 16 → held p k ≡ None → bound R k ≡ 0
  pub equal : (k : ℕ) (d : Demand) → k < 16 → held p k ≡ Some d → bound R k ≡ right_side most p R k d
  pub kept : (k : ℕ) (d : Demand) → k < 16 → held p k ≡ Some d → bound R k ≤ d.deadline

-- they are the least for every task
pub record Least (most : Caps) (p : Plan) (R : List ℕ) : Type 0 where
  pub solves : Solves most p R
  pub least : (S : List ℕ) → Solves most p S → (k : ℕ) → k < 16 → bound R k ≤ bound S k

-- the answer for a plan: the least bounds, or nothing where none solve
abbrev pub Answers : Caps → Plan → Option (List ℕ) → Type 0
Answers most p (Some R) = Least most p R
Answers most p None = (R : List ℕ) → Solves most p R → ⊥

-- 1 for each task, 0 for each empty slot
abbrev pub first_bound_of : Option Demand → ℕ
first_bound_of None = 0
first_bound_of (Some d) = 1

abbrev pub first_bounds_of : Plan → List ℕ
first_bounds_of p = map first_bound_of p.slots

-- bounds that come from the first ones by raising one bound at a time to its right side, within its deadline
pub data Reached (most : Caps) (p : Plan) : List ℕ → Type 0 where
  begun : (R : List ℕ) → R ≡ first_bounds_of p → Reached most p R
  raised : (R S : List ℕ) (k : ℕ) (d : Demand) → Reached most p R → k < 16 → held p k ≡ Some d
      → right_side most p R k d ≤ d.deadline → S ≡ slice_set R k (right_side most p R k d) → Reached most p S

-- the slot holds a task whose right side, at bounds that are reached, passes its deadline
pub record Passes (most : Caps) (p : Plan) (k : ℕ) : Type 0 where
  pub within : k < 16
  pub task : Demand
  pub there : held p k ≡ Some task
  pub bounds : List ℕ
  pub reached : Reached most p bounds
  pub past : task.deadline < right_side most p bounds k task

-- the answer as it is told: the least bounds; or a slot that passes, and no bounds solve
abbrev pub Told : Caps → Plan → Result (List ℕ) Passed → Type 0
Told most p (Ok R) = Least most p R
Told most p (Err e) = Passes most p e.slot × Answers most p None

-- what a job's timely end rests on: in the time that the bound leaves, one core-tick more could be used than is ever needed
abbrev pub BoundsEnough : Type 0
BoundsEnough = (most : Caps) (p : Plan) (R : List ℕ) → Solves most p R → (k : ℕ) (d : Demand) → k < 16 → held p k ≡ Some d
    → (p.cores - 1) * d.longest + d.total + interference (cap_of most R k d) p R k < p.cores * (bound R k + 1)

-- the same numbers
abbrev pub SameDemand : Option Demand → Option Demand → Type 0
SameDemand None None = Unit {0}
SameDemand None (Some e) = ⊥
SameDemand (Some d) None = ⊥
SameDemand (Some d) (Some e) = (d.period ≡ e.period) × (d.deadline ≡ e.deadline) × (d.longest ≡ e.longest) × (d.total ≡ e.total)

pub record SamePlan (p q : Plan) : Type 0 where
  pub cores : p.cores ≡ q.cores
  pub slots : (k : ℕ) → k < 16 → SameDemand (held p k) (held q k)

-- plans of the same numbers have the same answer under equal caps, and each has one at most
abbrev pub SameAnswer : Type 0
SameAnswer = (most also : Caps) (p q : Plan) (a b : Option (List ℕ)) → ((i k : Party) (R : ℕ) → most i k R ≡ also i k R) → SamePlan p q
    → Answers most p a → Answers also q b → a ≡ b
