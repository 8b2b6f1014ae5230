-- A book of the jobs, kept from the calls and their answers alone. Assumes nothing.
use Rattle.std.specs.Prelude.{◌≡◌, ℕ, suc, ◌/◌, ◌%◌, ◌^◌, ◌<◌, ◌≤◌, Bool, cond, List, [], ◌∷◌, ◌++◌, map, Some, None, Ok, Err, Option, Result, ◌==◌}
use Rattle.std.specs.List.{AllByRecursion}
use Rattle.table.specs.declared.records.Table.{Table}
use Rattle.table.specs.Fields.{four_told}
use Rattle.task.specs.Described.{Told}
use Rattle.task.specs.Retimed.{retimed}
use Rattle.controller.specs.declared.refusal.Refusal.{Refusal}
use Rattle.controller.specs.Calls.{Call, Add, Remove, Retime, Admit, Release, OpenTick, CloseTick, Share, Answer, Event}

-- a job: the ticks closed that it has seen, the bound told at its release, and its task's deadline
pub record Entry : Type 0 where
  pub seen : ℕ
  pub told : ℕ
  pub due : ℕ

-- a slot's task: none, the table last added there, or that with the time of a node set anew
pub data ToldTask : Type 0 where
  no_task : ToldTask
  added : (bytes : List ℕ) → ToldTask
  with_time : ToldTask → (node time : ℕ) → ToldTask

-- the slot holds the task that is told
abbrev pub HoldsTold : ToldTask → Option Table → Type 0
HoldsTold no_task x = x ≡ None
HoldsTold (added bytes) x = (table : Table) × Told bytes (Ok table) × (x ≡ Some table)
HoldsTold (with_time before v t) x = (table : Table) × HoldsTold before (Some table) × (x ≡ Some (retimed table v t))

-- a slot: its task and the task's deadline, its open jobs, and those that ended
pub record Line : Type 0 where
  pub task : ToldTask
  pub deadline : ℕ
  pub unended : List Entry
  pub ended : List Entry

abbrev pub blank : Line
blank = record { task = no_task; deadline = 0; unended = []; ended = [] }

-- the deadline stands in bytes 8 to 11 of a table
abbrev pub deadline_told : List ℕ → ℕ
deadline_told bytes = four_told bytes 8

abbrev pub on_add : List ℕ → Result (ℕ × ℕ) Refusal → Line → Line
on_add bytes (Ok a) l = record { task = added bytes; deadline = deadline_told bytes; unended = l.unended; ended = l.ended }
on_add bytes (Err e) l = l

abbrev pub on_remove : Result (Unit {0}) Refusal → Line → Line
on_remove (Ok a) l = record { task = no_task; deadline = l.deadline; unended = l.unended; ended = l.ended }
on_remove (Err e) l = l

abbrev pub on_retime : ℕ → ℕ → Result (ℕ × ℕ) Refusal → Line → Line
on_retime v x (Ok a) l = record { task = with_time l.task v x; deadline = l.deadline; unended = l.unended; ended = l.ended }
on_retime v x (Err e) l = l

-- a successful release opens a job with 0 ticks seen, and tells its bound
abbrev pub on_release : Result ℕ Refusal → Line → Line
on_release (Ok b) l =
    record {
      task = l.task;
      deadline = l.deadline;
      unended = record { seen = 0; told = b; due = l.deadline } ∷ l.unended;
      ended = l.ended;
    }
on_release (Err e) l = l

abbrev pub one_seen : Entry → Entry
one_seen j = record { seen = suc j.seen; told = j.told; due = j.due }

-- bit s of a number
abbrev pub bit_is_set : ℕ → ℕ → Bool
bit_is_set mask s = mask / 2 ^ s % 2 == 1

-- a successful close adds 1 to what each open job has seen; bit s of its answer ends the job of s
abbrev pub on_close : ℕ → Result ℕ Refusal → Line → Line
on_close s (Ok mask) l =
    cond (bit_is_set mask s)
    (record { task = l.task; deadline = l.deadline; unended = []; ended = map one_seen l.unended ++ l.ended })
    (record { task = l.task; deadline = l.deadline; unended = map one_seen l.unended; ended = l.ended })
on_close s (Err e) l = l

-- the line of slot s after a call
abbrev pub entered : (c : Call) → Answer c → ℕ → Line → Line
entered (Add k bytes) a s l = cond (s == k) (on_add bytes a l) l
entered (Remove k) a s l = cond (s == k) (on_remove a l) l
entered (Retime k v x) a s l = cond (s == k) (on_retime v x a l) l
entered (Admit list) a s l = l
entered (Release k) a s l = cond (s == k) (on_release a l) l
entered (OpenTick list) a s l = l
entered (CloseTick outcomes) a s l = on_close s a l
entered (Share k v w) a s l = l

abbrev pub book : List Event → ℕ → Line
book [] s = blank
book (e ∷ h) s = entered e.0 e.1 s (book h s)

-- a job that ended saw no more ticks than the bound told, which is at most its task's deadline; one that is open has seen fewer
pub record EndedInTime (j : Entry) : Type 0 where
  pub in_bound : j.seen ≤ j.told
  pub in_deadline : j.told ≤ j.due

pub record OpenInTime (j : Entry) : Type 0 where
  pub below_bound : j.seen < j.told
  pub in_deadline : j.told ≤ j.due

pub record InTime (b : ℕ → Line) : Type 0 where
  pub open_jobs : (s : ℕ) → s < 16 → AllByRecursion OpenInTime (b s).unended
  pub ended_jobs : (s : ℕ) → s < 16 → AllByRecursion EndedInTime (b s).ended
