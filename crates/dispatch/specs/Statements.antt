-- What is proved of placing and of closing.
use Rattle.std.specs.Prelude.{◌≡◌, ℕ, List, Some, Option}
use Rattle.jobs.specs.Job.{Allowed}
use Rattle.sets.specs.declared.bit_set.BitSet.{BitSet}
use Rattle.task.specs.declared.held.Task.{Task}
use Rattle.dispatch.specs.declared.job.Job.{Job}
use Rattle.dispatch.specs.declared.spot.Spot.{Spot}
use Rattle.dispatch.specs.Closing.{outcome_of, AllRight, Closed}
use Rattle.dispatch.specs.Placing.{Orderly, SparesNone, EachOnce}
use Rattle.dispatch.specs.Tables.{task_at, job_at, task_nodes, task_arcs, ReadyIn, AheadIn, Places}

-- at most one placing is right
abbrev pub OnePlacing : Type 0
OnePlacing =
    (tasks : List (Option Task)) (jobs : List (Option Job)) (ahead : List BitSet) (cores : ℕ) (spots other : List (Option Spot)) (busy more : ℕ)
    → Places tasks jobs ahead cores spots busy → Places tasks jobs ahead cores other more → (spots ≡ other) × (busy ≡ more)

-- where the jobs are in order, no ready node is without a core while one is idle or busy with a job behind
abbrev pub Conserving : Type 0
Conserving =
    (tasks : List (Option Task)) (jobs : List (Option Job)) (ahead : List BitSet) (cores : ℕ) (spots : List (Option Spot)) (busy : ℕ)
    → Orderly (ReadyIn tasks jobs) (AheadIn ahead) → Places tasks jobs ahead cores spots busy
    → SparesNone (ReadyIn tasks jobs) (AheadIn ahead) cores spots busy

-- the cores run ready nodes, each once
abbrev pub PlacesOnce : Type 0
PlacesOnce =
    (tasks : List (Option Task)) (jobs : List (Option Job)) (ahead : List BitSet) (cores : ℕ) (spots : List (Option Spot)) (busy : ℕ)
    → Places tasks jobs ahead cores spots busy → EachOnce (ReadyIn tasks jobs) spots

-- what is left after a tick is one thing only
abbrev pub OneClosing : Type 0
OneClosing =
    (tasks : List (Option Task)) (jobs : List (Option Job)) (spots : List (Option Spot)) (outcomes : List ℕ) (mask other : ℕ)
    (left rest : List (Option Job)) → Closed tasks jobs spots outcomes mask left → Closed tasks jobs spots outcomes other rest
    → (mask ≡ other) × (left ≡ rest)

-- right outcomes of a placed tick are an allowed tick of each open job
abbrev pub RightIsAllowed : Type 0
RightIsAllowed =
    (tasks : List (Option Task)) (jobs : List (Option Job)) (ahead : List BitSet) (cores : ℕ) (spots : List (Option Spot)) (busy : ℕ)
    (outcomes : List ℕ) → Places tasks jobs ahead cores spots busy → AllRight tasks jobs spots outcomes
    → (s : ℕ) (task : Task) (job : Job) → task_at tasks s ≡ Some task → job_at jobs s ≡ Some job
    → Allowed (task_nodes task) (task_arcs task) job.states (outcome_of spots outcomes s)
