-- How a job is moved by a tick: words for the parts of closing.
use Rattle.std.specs.Prelude.{◌≡◌, ℕ, suc, ◌<◌, ◌≢◌, List, length, Some, None, Option}
use Rattle.jobs.specs.declared.node_state.NodeState.{NodeState}
use Rattle.jobs.specs.Job.{state, ticks, IsEnded, JobEnded, Outcome, goes_on, ends_with, next, after}
use Rattle.sets.specs.declared.bit_set.BitSet.{BitSet}
use Rattle.sets.specs.Sets.{Has, Marks}
use Rattle.table.specs.declared.records.Node.{Node}
use Rattle.table.specs.declared.records.Role.{Role}
use Rattle.table.specs.declared.records.Role.TheVariants.{Opening}
use Rattle.task.specs.declared.held.Task.{Task}
use Rattle.dispatch.specs.declared.job.Job.{Job}
use Rattle.dispatch.specs.declared.outcome.Outcome.{Outcome as NodeOutcome}
use Rattle.dispatch.specs.declared.outcome.Outcome.TheVariants.{GoesOn, Ends}
use Rattle.dispatch.specs.declared.spot.Spot.{Spot}
use Rattle.dispatch.specs.Closing.{meant, byte_at, outcome_below, Right, RightAt, states_after, Moved}
use Rattle.dispatch.specs.Spots.{spot, spot_at, HasCore}
use Rattle.dispatch.specs.Tables.{task_nodes, task_arcs}

-- what an outcome of a node with a core says
abbrev pub said : NodeOutcome → Outcome
said GoesOn = goes_on
said (Ends b) = ends_with b

-- a node of this role may end with the branch b: an opening with one of these branches, any other with 0
pub record EndsFitly (role : Role) (branches : BitSet) (b : ℕ) : Type 0 where
  pub branch_there : role ≡ Opening → Has branches b
  pub else_zero : role ≢ Opening → b ≡ 0

-- the outcome is right for a node of this role, time and branches, in this state
pub record Fits (role : Role) (time : ℕ) (branches : BitSet) (s : NodeState) (o : Outcome) : Type 0 where
  pub not_ended : IsEnded s → ⊥
  pub below_time : o ≡ goes_on → suc (ticks s) < time
  pub branch_there : (b : ℕ) → o ≡ ends_with b → role ≡ Opening → Has branches b
  pub else_zero : (b : ℕ) → o ≡ ends_with b → role ≢ Opening → b ≡ 0

-- the outcome is right for the node v, which it brings to the state s
pub record Brings (ns : List Node) (job : List NodeState) (v : ℕ) (o : Outcome) (s : NodeState) : Type 0 where
  pub right : Right ns job v o
  pub moved : s ≡ next o (state job v)

-- the state after a right outcome, and none after another
abbrev pub MovesTo : List Node → List NodeState → ℕ → Outcome → Option NodeState → Type 0
MovesTo ns job v o (Some s) = Brings ns job v o s
MovesTo ns job v o None = Right ns job v o → ⊥

-- the outcome is right for what a core ran: an idle one goes on
abbrev pub Suits : List (Option Task) → List (Option Job) → Option Spot → Outcome → Type 0
Suits tasks jobs None o = o ≡ goes_on
Suits tasks jobs (Some p) o = RightAt tasks jobs p o

-- the outcomes are right on all cores that run nodes of the job in slot s
abbrev pub RightInSlot : List Node → List NodeState → ℕ → List (Option Spot) → List ℕ → Type 0
RightInSlot ns job s spots outcomes =
    (c n : ℕ) → c < length outcomes → spot_at spots c ≡ Some (spot s n) → Right ns job n (meant (byte_at outcomes c))

-- what the cores below m make of the nodes of slot s, and which of these they run
pub record Runs (spots : List (Option Spot)) (outcomes : List ℕ) (m s : ℕ) (job later : List NodeState) (placed : BitSet) : Type 0 where
  pub states : later ≡ after (outcome_below spots outcomes m s) job
  pub marked : Marks (HasCore spots m s) placed

-- what the tick leaves of the job in slot s: nothing where it ended
abbrev pub Leaves : Task → Job → List (Option Spot) → List ℕ → ℕ → Option Job → Type 0
Leaves task job spots outcomes s None = JobEnded (task_nodes task) (task_arcs task) (states_after spots outcomes s job)
Leaves task job spots outcomes s (Some later) =
    (JobEnded (task_nodes task) (task_arcs task) (states_after spots outcomes s job) → ⊥) × Moved spots outcomes s job later
