-- The response-time theorem where a tick may bring a ready node any outcome, allowed or not. Assumes nothing.
-- It stands beside specs/Run and specs/Statements clause by clause, so that a reader can hold the two forms side by side.
use Rattle.std.specs.Prelude.{◌≡◌, ℕ, ◌+◌, ◌<◌, ◌≤◌, ◌⊎◌, List, [], ◌∷◌, length}
use Rattle.std.specs.List.{AllByRecursion}
use Rattle.timing.specs.Jobs.{Turn, turns_of, LawsIn}
use Rattle.timing.specs.System.{Plan, Held, Bounded, System}
use Rattle.timing.specs.Run.{idle, State, start, MayRelease, release, Place, places_of, ReadyAt, GoesAhead, tick}
use Rattle.timing.specs.Statements.{Timely, NoOverlap, EndedWithin, past_of, TestedJobs, system_of}
use Rattle.timing.specs.Example.{two_tasks, example}

-- a node has one turn at most, and only if it is ready
abbrev pub ReadyOnce : {O : Type 0} → (ℕ → Type 0) → List (Turn O) → Type 0
ReadyOnce ready ts = (v : ℕ) → (turns_of v ts ≤ 1) × (1 ≤ turns_of v ts → ready v)

-- the jobs keep the laws whatever the outcomes are
abbrev pub SoundFreely : System → Type 0
SoundFreely y =
    (k : ℕ) → Held y.plan k
    → LawsIn (y.jobs k) (λ j ts. (y.jobs k).Sound j × ReadyOnce ((y.jobs k).Ready j) ts) y.plan.cores (y.plan.work k) (y.plan.weight k)

-- as `MayTick`, but that each core runs a node that is ready is all that is asked of its turn
pub record MayTickFreely (y : System) (s : State y) (cs : List (Place y.Outcome)) : Type 0 where
  pub ready : AllByRecursion (λ c. (c.slot < y.plan.slots) × ReadyAt (y.jobs c.slot) c.turn.node (s.slot c.slot)) cs
  pub once : (k v : ℕ) → places_of k v cs ≤ 1
  pub few : length cs ≤ y.plan.cores
  pub work_conserving : (k w : ℕ) → Held y.plan k → ReadyAt (y.jobs k) w (s.slot k) → places_of k w cs ≡ 0
      → (length cs ≡ y.plan.cores) × AllByRecursion (λ c. (c.slot ≡ k) ⊎ GoesAhead y s c.slot k) cs

-- a run of such ticks
pub data RunFreely (y : System) (s : State y) : State y → Type 0 where
  begun : RunFreely y s s
  released : {u : State y} (k : ℕ) → RunFreely y s u → MayRelease y u k → RunFreely y s (release y k u)
  ticked : {u : State y} (cs : List (Place y.Outcome)) → RunFreely y s u → MayTickFreely y u cs → RunFreely y s (tick y cs u)

-- as `Ends`, in such runs
abbrev pub EndsFreely : (y : System) → State y → Type 0
EndsFreely y s =
    (k : ℕ) → MayRelease y s k → (u : State y) → RunFreely y (release y k s) u → s.now + y.plan.bound k ≤ u.now
    → EndedWithin (y.plan.bound k) s.now (past_of (u.slot k))

-- In every such run each job ends within its bound, and no job is released while one of its task is open.
abbrev pub RespondsFreely : System → Type 0
RespondsFreely y =
    Bounded y.plan → SoundFreely y → (s : State y) → RunFreely y (start y) s → EndsFreely y s × Timely y s × NoOverlap y s

abbrev pub AllRespondFreely : Type 0 → Type 0 → Type 0
AllRespondFreely S O = (p : Plan) (q : ℕ → TestedJobs S O) → RespondsFreely (system_of p q)

-- the worked example meets what this form assumes too, and has such a run in which each job ends exactly at its bound
abbrev pub ExampleRespondsFreely : Type 0
ExampleRespondsFreely = SoundFreely example × RespondsFreely example

abbrev pub ExampleRunsFreely : Type 0
ExampleRunsFreely =
    (s : State example) × RunFreely example (start example) s
    × (s.slot 0 ≡ idle (record { released = 0; spent = 0 ∷ 0 ∷ []; ended = two_tasks.bound 0 } ∷ []))
    × (s.slot 1 ≡ idle (record { released = 0; spent = 2 ∷ 1 ∷ []; ended = two_tasks.bound 1 } ∷ []))
