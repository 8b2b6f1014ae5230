-- What a controller's tables say of its slots and its cores. Assumes nothing.
use Rattle.std.specs.Prelude.{◌≡◌, ℕ, suc, ◌<◌, true, ◌⊎◌, List, [], ◌∷◌, pos, ◌-ℤ◌, Some, None, Option, slice_index_or}
use Rattle.table.specs.declared.records.Table.{Table}
use Rattle.task.specs.declared.held.Task.{Task}
use Rattle.order.specs.declared.Party.{Party}
use Rattle.order.specs.Laws.{Meaning}
use Rattle.dispatch.specs.declared.job.Job.{Job}
use Rattle.dispatch.specs.declared.spot.Spot.{Spot}
use Rattle.dispatch.specs.Tables.{task_at, job_at}
use Rattle.controller.specs.declared.tables.Tables.{Tables}

abbrev pub cores : Tables → ℕ
cores t = t.plan.cores

-- by slot: its task, its open job, the ticks closed since the last release of its task
abbrev pub task_in : Tables → ℕ → Option Task
task_in t s = task_at t.board.tasks s

abbrev pub table_of : Option Task → Option Table
table_of None = None
table_of (Some τ) = Some τ.table

abbrev pub table_in : Tables → ℕ → Option Table
table_in t s = table_of (task_in t s)

abbrev pub job_in : Tables → ℕ → Option Job
job_in t s = job_at t.board.jobs s

abbrev pub waited_in : Tables → ℕ → Option ℕ
waited_in t s = slice_index_or t.waited s None

abbrev pub period : Task → ℕ
period τ = τ.table.timing.period

abbrev pub deadline : Task → ℕ
deadline τ = τ.table.timing.deadline

-- the task of slot s as an order sees it
abbrev pub party : ℕ → Task → Party
party s τ = record { slot = s; period = period τ; deadline = deadline τ }

-- a tick is open, in which the cores run these nodes
abbrev pub Ticking : Tables → List (Option Spot) → Type 0
Ticking t spots = t.tick ≡ Some spots

-- the slot holds a task
abbrev pub HoldsTask : List (Option Task) → ℕ → Type 0
HoldsTask tasks s = (τ : Task) × (task_at tasks s ≡ Some τ)

-- the slot has an open job
abbrev pub HasJob : List (Option Job) → ℕ → Type 0
HasJob jobs s = (j : Job) × (job_at jobs s ≡ Some j)

-- some job is open
pub record SomeOpen (jobs : List (Option Job)) : Type 0 where
  pub slot : ℕ
  pub within : slot < 16
  pub job : Job
  pub there : job_at jobs slot ≡ Some job

-- no job is open
abbrev pub NoneOpen : List (Option Job) → Type 0
NoneOpen jobs = (s : ℕ) → s < 16 → job_at jobs s ≡ None

-- The open job of slot i goes ahead of the open job of slot k: it was released as many ticks after it as it is younger
pub record GoesFirst (o : Meaning) (tasks : List (Option Task)) (jobs : List (Option Job)) (i k : ℕ) : Type 0 where
  pub first_task : Task
  pub first_job : Job
  pub other_task : Task
  pub other_job : Job
  pub first_held : task_at tasks i ≡ Some first_task
  pub first_open : job_at jobs i ≡ Some first_job
  pub other_held : task_at tasks k ≡ Some other_task
  pub other_open : job_at jobs k ≡ Some other_job
  pub goes : o.goes (party i first_task) (party k other_task) (pos other_job.age -ℤ pos first_job.age) ≡ true

-- and a job goes ahead of itself
abbrev pub GoesAhead : Meaning → List (Option Task) → List (Option Job) → ℕ → ℕ → Type 0
GoesAhead o tasks jobs i k = (i < 16) × (k < 16) × ((i ≡ k) ⊎ GoesFirst o tasks jobs i k)

-- how many slots hold a task
abbrev pub held_in : List (Option Task) → ℕ
held_in [] = 0
held_in (None ∷ ts) = held_in ts
held_in (Some τ ∷ ts) = suc (held_in ts)
