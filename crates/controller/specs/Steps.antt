-- What the tables do once the order has been asked. Assumes nothing.
use Rattle.std.specs.Prelude.{◌≡◌, ℕ, ◌<◌, List, ◌++◌, drop, Some, None, Option, slice_index_or}
use Rattle.sets.specs.declared.bit_set.BitSet.{BitSet}
use Rattle.sets.specs.Sets.{Marks}
use Rattle.task.specs.declared.held.Task.{Task}
use Rattle.dispatch.specs.declared.job.Job.{Job}
use Rattle.dispatch.specs.declared.spot.Spot.{Spot}
use Rattle.dispatch.specs.Spots.{Written}
use Rattle.dispatch.specs.Tables.{task_at, job_at, row, Places}
use Rattle.controller.specs.declared.precedence.Entrant.{Entrant}
use Rattle.controller.specs.declared.tables.Tables.{Tables}
use Rattle.controller.specs.Effects.{SameTasks}
use Rattle.order.specs.Laws.{Meaning}
use Rattle.controller.specs.State.{cores, party, held_in, Ticking, GoesAhead}

-- the bounds are kept and told
pub record BoundsKept (t : Tables) (bounds list : List ℕ) (n : ℕ) (after : List ℕ) (u : Tables) : Type 0 where
  pub kept : u.bounds ≡ Some bounds
  pub told : after ≡ bounds ++ drop 16 list
  pub counted : n ≡ held_in t.board.tasks
  pub same : SameTasks t u
  pub same_jobs : u.board.jobs ≡ t.board.jobs
  pub same_waited : u.waited ≡ t.waited
  pub same_tick : u.tick ≡ t.tick

-- what the cores run is placed by the sets of jobs behind each, kept and told
pub record SpotsKept (t : Tables) (ahead : List BitSet) (list : List ℕ) (n : ℕ) (after : List ℕ) (u : Tables) : Type 0 where
  pub spots : List (Option Spot)
  pub placed : Places t.board.tasks t.board.jobs ahead (cores t) spots n
  pub told : Written spots (cores t) list after
  pub ticking : Ticking u spots
  pub same : SameTasks t u
  pub same_jobs : u.board.jobs ≡ t.board.jobs
  pub same_waited : u.waited ≡ t.waited
  pub same_bounds : u.bounds ≡ t.bounds

-- an open job as the order sees it
abbrev pub entrant : ℕ → Option Task → Option Job → Option Entrant
entrant s None job = None
entrant s (Some τ) None = None
entrant s (Some τ) (Some j) = Some (record { party = party s τ; age = j.age })

abbrev pub EntrantsAre : List (Option Task) → List (Option Job) → List (Option Entrant) → Type 0
EntrantsAre tasks jobs es = (s : ℕ) → s < 16 → slice_index_or es s None ≡ entrant s (task_at tasks s) (job_at jobs s)

-- row i has the slots whose jobs the job of slot i goes ahead of
abbrev pub Precedence : Meaning → List (Option Task) → List (Option Job) → List BitSet → Type 0
Precedence o tasks jobs rows = (i : ℕ) → i < 16 → Marks (GoesAhead o tasks jobs i) (row rows i)
