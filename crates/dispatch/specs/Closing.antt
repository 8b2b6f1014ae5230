-- What the outcomes of a tick bring: what each node had, when an outcome is right, and what is left of the open jobs. Assumes nothing.
use Rattle.std.specs.Prelude.{◌≡◌, ℕ, zero, suc, ◌+◌, ◌-◌, ◌/◌, ◌%◌, ◌^◌, ◌<◌, min, Bool, false, cond, ◌&&◌, ◌≢◌, ◌⊎◌, List, length, Some, None, Option, ◌==◌, slice_index}
use Rattle.jobs.specs.declared.node_state.NodeState.{NodeState}
use Rattle.jobs.specs.Job.{state, ticks, HasEnded, JobEnded, Outcome, idle, goes_on, ends_with, after}
use Rattle.sets.specs.Sets.{Marks}
use Rattle.table.specs.declared.records.Node.{Node}
use Rattle.table.specs.declared.records.Role.TheVariants.{Opening}
use Rattle.task.specs.declared.held.Task.{Task}
use Rattle.task.specs.Graph.{role, time, IsNode, HasBranch}
use Rattle.dispatch.specs.declared.job.Job.{Job}
use Rattle.dispatch.specs.declared.spot.Spot.{Spot}
use Rattle.dispatch.specs.Spots.{spot_at, HasCore}
use Rattle.dispatch.specs.Tables.{task_at, job_at, task_nodes, task_arcs}

-- what the byte says: 0, the node goes on; 1 + b, it ended, with the branch b
abbrev pub meant : ℕ → Outcome
meant zero = goes_on
meant (suc b) = ends_with b

-- the outcome byte of core c
abbrev pub byte_at : List ℕ → ℕ → ℕ
byte_at outcomes c = slice_index outcomes c

-- whether it is node n of slot s
abbrev pub is_spot : Option Spot → ℕ → ℕ → Bool
is_spot (Some p) s n = p.slot == s && p.node == n
is_spot None s n = false

-- what the cores below m bring to node n of slot s: nothing where none runs it; of several that would, the last counts
abbrev pub outcome_below : List (Option Spot) → List ℕ → ℕ → ℕ → ℕ → Outcome
outcome_below spots outcomes zero s n = idle
outcome_below spots outcomes (suc c) s n =
    cond (is_spot (spot_at spots c) s n) (meant (byte_at outcomes c)) (outcome_below spots outcomes c s n)

-- what the tick brings to each node of slot s
abbrev pub outcome_of : List (Option Spot) → List ℕ → ℕ → ℕ → Outcome
outcome_of spots outcomes s = outcome_below spots outcomes (length outcomes) s

-- The outcome is right for the node v: it is a node that has not ended; it goes on only while its ticks, this one included, are below its
-- time; an opening ends with a branch that it has, any other node with 0
pub record Right (ns : List Node) (job : List NodeState) (v : ℕ) (o : Outcome) : Type 0 where
  pub is_node : IsNode ns v
  pub not_ended : HasEnded job v → ⊥
  pub below_time : o ≡ goes_on → suc (ticks (state job v)) < time ns v
  pub branch_there : (b : ℕ) → o ≡ ends_with b → role ns v ≡ Opening → HasBranch ns v b
  pub else_zero : (b : ℕ) → o ≡ ends_with b → role ns v ≢ Opening → b ≡ 0

-- the slot of the spot holds a task and an open job, and the outcome is right for its node
pub record RightAt (tasks : List (Option Task)) (jobs : List (Option Job)) (p : Spot) (o : Outcome) : Type 0 where
  pub task : Task
  pub its_task : task_at tasks p.slot ≡ Some task
  pub job : Job
  pub its_job : job_at jobs p.slot ≡ Some job
  pub right : Right (task_nodes task) job.states p.node o

-- the byte is right for what a core ran: 0 where it was idle
abbrev pub RightFor : List (Option Task) → List (Option Job) → Option Spot → ℕ → Type 0
RightFor tasks jobs None byte = byte ≡ 0
RightFor tasks jobs (Some p) byte = RightAt tasks jobs p (meant byte)

-- the outcome of core c is right
abbrev pub RightOn : List (Option Task) → List (Option Job) → List (Option Spot) → List ℕ → ℕ → Type 0
RightOn tasks jobs spots outcomes c = RightFor tasks jobs (spot_at spots c) (byte_at outcomes c)

abbrev pub AllRight : List (Option Task) → List (Option Job) → List (Option Spot) → List ℕ → Type 0
AllRight tasks jobs spots outcomes = (c : ℕ) → c < length outcomes → RightOn tasks jobs spots outcomes c

-- bit s of the mask is set
abbrev pub Bit : ℕ → ℕ → Type 0
Bit mask s = mask / 2 ^ s % 2 ≡ 1

-- how far the job in slot s is with its nodes after the tick
abbrev pub states_after : List (Option Spot) → List ℕ → ℕ → Job → List NodeState
states_after spots outcomes s job = after (outcome_of spots outcomes s) job.states

-- the same job one tick later: its nodes moved, those that had a core marked, its age one more unless it is at its greatest
pub record Moved (spots : List (Option Spot)) (outcomes : List ℕ) (s : ℕ) (job later : Job) : Type 0 where
  pub states : later.states ≡ states_after spots outcomes s job
  pub placed : Marks (HasCore spots (length outcomes) s) later.placed
  pub age : later.age ≡ min (job.age + 1) (2 ^ 32 - 1)

-- the job ended in the tick: its slot has no job, and its bit is set
pub record Ends (task : Task) (job : Job) (spots : List (Option Spot)) (outcomes : List ℕ) (s mask : ℕ) (left : Option Job) : Type 0 where
  pub ended : JobEnded (task_nodes task) (task_arcs task) (states_after spots outcomes s job)
  pub gone : left ≡ None
  pub told : Bit mask s

-- the job has not ended: its slot has it one tick later, and its bit is clear
pub record Stays (task : Task) (job : Job) (spots : List (Option Spot)) (outcomes : List ℕ) (s mask : ℕ) (left : Option Job) : Type 0 where
  pub not_ended : JobEnded (task_nodes task) (task_arcs task) (states_after spots outcomes s job) → ⊥
  pub later : Job
  pub still : left ≡ Some later
  pub moved : Moved spots outcomes s job later
  pub not_told : Bit mask s → ⊥

-- the slot has no open job of a task: it is as it was, and its bit is clear
pub record Unmoved (before : Option Job) (s mask : ℕ) (left : Option Job) : Type 0 where
  pub same : left ≡ before
  pub not_told : Bit mask s → ⊥

-- what the slot s had and what is left of it
abbrev pub ClosedSlot : Option Task → Option Job → List (Option Spot) → List ℕ → ℕ → ℕ → Option Job → Type 0
ClosedSlot (Some task) (Some job) spots outcomes s mask left = Ends task job spots outcomes s mask left ⊎ Stays task job spots outcomes s mask left
ClosedSlot (Some task) None spots outcomes s mask left = Unmoved None s mask left
ClosedSlot None job spots outcomes s mask left = Unmoved job s mask left

-- what is left of the open jobs after the tick, and the mask of the slots whose jobs ended in it
pub record Closed (tasks : List (Option Task)) (jobs : List (Option Job)) (spots : List (Option Spot)) (outcomes : List ℕ) (mask : ℕ)
    (left : List (Option Job)) : Type 0 where
  pub sixteen : length left ≡ 16
  pub small : mask < 2 ^ 16
  pub slots : (s : ℕ) → s < 16 → ClosedSlot (task_at tasks s) (job_at jobs s) spots outcomes s mask (job_at left s)
