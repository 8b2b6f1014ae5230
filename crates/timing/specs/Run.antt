-- The runs of a system: releases, and ticks that leave no core idle while a node that is ready waits. Assumes nothing.
use Rattle.std.specs.Prelude.{◌≡◌, ℕ, suc, ◌+◌, ◌<◌, ◌≤◌, Bool, true, false, cond, ◌&&◌, ◌⊎◌, List, [], ◌∷◌, ◌++◌, length, replicate, pos, ◌-ℤ◌, ◌==◌}
use Rattle.std.specs.List.{AllByRecursion}
use Rattle.timing.specs.Counts.{count_if}
use Rattle.timing.specs.Jobs.{Jobs, Turn, MayHave}
use Rattle.timing.specs.System.{System, Held}

-- ---- states

-- a job that has ended: its release, the ticks in which it used a core, each as often as it used one, and the time of its end
pub record Done : Type 0 where
  pub released : ℕ
  pub spent : List ℕ
  pub ended : ℕ

-- A slot with no open job, or with one: its release, the ticks that it spent, its state. Then the jobs that have ended, the newest first.
pub data Slot (S : Type 0) : Type 0 where
  idle : List Done → Slot S
  busy : ℕ → List ℕ → S → List Done → Slot S

pub record State (y : System) : Type 0 where
  pub now : ℕ
  pub slot : (k : ℕ) → Slot (y.jobs k).State

abbrev pub start : (y : System) → State y
start y = record { now = 0; slot = λ k. idle [] }

-- ---- a release

-- every job was released at least T before t
abbrev pub Spaced : {S : Type 0} → ℕ → ℕ → Slot S → Type 0
Spaced T t (idle past) = AllByRecursion (λ d. d.released + T ≤ t) past
Spaced T t (busy r spent j past) = (r + T ≤ t) × AllByRecursion (λ d. d.released + T ≤ t) past

-- the slot holds a task, and a period has passed since each of its releases
abbrev pub MayRelease : (y : System) → State y → ℕ → Type 0
MayRelease y s k = Held y.plan k × Spaced (y.plan.party k).period s.now (s.slot k)

-- a new job at t; that none is open then is no condition of a run: it is proved of every run (`NoOverlap`)
abbrev pub begin : {S : Type 0} → ℕ → S → Slot S → Slot S
begin t fresh (idle past) = busy t [] fresh past
begin t fresh (busy r spent j past) = busy r spent j past

abbrev pub release : (y : System) → ℕ → State y → State y
release y k s = record { now = s.now; slot = λ i. cond (k == i) (begin s.now (y.jobs i).fresh (s.slot i)) (s.slot i) }

-- ---- a tick

-- a core, given to a node of a slot's open job
pub record Place (O : Type 0) : Type 0 where
  pub slot : ℕ
  pub turn : Turn O

-- the turns of slot k
abbrev pub turns_for : {O : Type 0} → ℕ → List (Place O) → List (Turn O)
turns_for k [] = []
turns_for k (c ∷ cs) = cond (k == c.slot) (c.turn ∷ turns_for k cs) (turns_for k cs)

-- how many cores the node v of slot k has
abbrev pub places_of : {O : Type 0} → ℕ → ℕ → List (Place O) → ℕ
places_of k v cs = count_if (λ c. (k == c.slot) && v == c.turn.node) cs

-- the slot has an open job, in which the node w is ready
abbrev pub ReadyAt : {O : Type 0} (J : Jobs O) → ℕ → Slot J.State → Type 0
ReadyAt J w (idle past) = ⊥
ReadyAt J w (busy r spent j past) = J.Ready j w

-- the slot has an open job, which may have the turn
abbrev pub MayHaveAt : {O : Type 0} (J : Jobs O) → Turn O → Slot J.State → Type 0
MayHaveAt J t (idle past) = ⊥
MayHaveAt J t (busy r spent j past) = MayHave J j t

-- the slot has an open job, of whose release P holds
abbrev pub OpenAt : {S : Type 0} → (ℕ → Type 0) → Slot S → Type 0
OpenAt P (idle past) = ⊥
OpenAt P (busy r spent j past) = P r

-- the open job of slot i goes ahead of the open job of slot k
abbrev pub GoesAhead : (y : System) → State y → ℕ → ℕ → Type 0
GoesAhead y s i k =
    OpenAt (λ r. OpenAt (λ q. y.plan.goes (y.plan.party i) (y.plan.party k) (pos q -ℤ pos r) ≡ true) (s.slot i)) (s.slot k)

pub record MayTick (y : System) (s : State y) (cs : List (Place y.Outcome)) : Type 0 where
  -- each core runs a node that is ready, and the tick brings it an outcome that is allowed there
  pub allowed : AllByRecursion (λ c. (c.slot < y.plan.slots) × MayHaveAt (y.jobs c.slot) c.turn (s.slot c.slot)) cs
  -- no node has two cores
  pub once : (k v : ℕ) → places_of k v cs ≤ 1
  pub few : length cs ≤ y.plan.cores
  -- where a ready node has no core, all cores have nodes of its job, or of jobs that go ahead of it
  pub work_conserving : (k w : ℕ) → Held y.plan k → ReadyAt (y.jobs k) w (s.slot k) → places_of k w cs ≡ 0
      → (length cs ≡ y.plan.cores) × AllByRecursion (λ c. (c.slot ≡ k) ⊎ GoesAhead y s c.slot k) cs

abbrev pub settle : {S : Type 0} → Bool → ℕ → ℕ → List ℕ → S → List Done → Slot S
settle true t r spent j past = idle (record { released = r; spent = spent; ended = t } ∷ past)
settle false t r spent j past = busy r spent j past

-- the slot after a tick at t in which its open job has the turns ts
abbrev pub work : {O : Type 0} (J : Jobs O) → ℕ → List (Turn O) → Slot J.State → Slot J.State
work J t ts (idle past) = idle past
work J t ts (busy r spent j past) =
    settle (J.ended (J.advance j ts)) (suc t) r (replicate (length ts) t ++ spent) (J.advance j ts) past

abbrev pub tick : (y : System) → List (Place y.Outcome) → State y → State y
tick y cs s = record { now = suc s.now; slot = λ k. work (y.jobs k) s.now (turns_for k cs) (s.slot k) }

-- ---- runs

-- from one state to another
pub data Run (y : System) (s : State y) : State y → Type 0 where
  begun : Run y s s
  released : {u : State y} (k : ℕ) → Run y s u → MayRelease y u k → Run y s (release y k u)
  ticked : {u : State y} (cs : List (Place y.Outcome)) → Run y s u → MayTick y u cs → Run y s (tick y cs u)
