-- A job of a task: how far it is with each of its nodes, which nodes are ready, and what a tick does to it. Assumes nothing.
use Rattle.std.specs.Prelude.{◌≡◌, ℕ, suc, ◌+◌, ◌<◌, ◌≤◌, ◌≢◌, List, [], ◌∷◌, length, replicate, slice_index_or}
use Rattle.table.specs.declared.records.Arc.{Arc}
use Rattle.table.specs.declared.records.Node.{Node}
use Rattle.table.specs.declared.records.Region.{Region}
use Rattle.table.specs.declared.records.Region.TheVariants.{Top, Branch}
use Rattle.table.specs.declared.records.Role.TheVariants.{Opening, Closing}
use Rattle.task.specs.Graph.{role, region, time, IsNode, InRegion, HasBranch, Joined, Last}
use Rattle.jobs.specs.declared.node_state.NodeState.{NodeState}
use Rattle.jobs.specs.declared.node_state.NodeState.TheVariants.{Untouched, Running, Ended}

-- how far the job is with the node v
abbrev pub state : List NodeState → ℕ → NodeState
state job v = slice_index_or job v Untouched

-- ended, with some branch
abbrev pub IsEnded : NodeState → Type 0
IsEnded s = (b : ℕ) × (s ≡ Ended b)

abbrev pub HasEnded : List NodeState → ℕ → Type 0
HasEnded job v = IsEnded (state job v)

-- the job has come to the region: to the top from its release on, and to a branch when its home has ended with it
abbrev pub Entered : List NodeState → Region → Type 0
Entered job Top = Unit {0}
Entered job (Branch h b) = state job h ≡ Ended b

-- the node v is taken so far
abbrev pub Taken : List Node → List NodeState → ℕ → Type 0
Taken ns job v = Entered job (region ns v)

-- A node may run: it is taken and has not ended, and each taken node with an arc to it has ended, and so has its opening if it is a closing
pub record Ready (ns : List Node) (arcs : List Arc) (job : List NodeState) (v : ℕ) : Type 0 where
  pub is_node : IsNode ns v
  pub taken : Taken ns job v
  pub not_ended : HasEnded job v → ⊥
  pub all_before : (u : ℕ) → Joined arcs u v → Taken ns job u → HasEnded job u
  pub opening_ended : (o : ℕ) → role ns v ≡ Closing o → HasEnded job o

-- a job ends with the last unit of the top region
pub record JobEnded (ns : List Node) (arcs : List Arc) (job : List NodeState) : Type 0 where
  pub last_node : ℕ
  pub at_top : InRegion ns Top last_node
  pub is_last : Last ns arcs last_node
  pub ended : HasEnded job last_node

-- what one tick brings to a node: it did not run, it ran and goes on, or it ran and ended with a branch
pub data Outcome : Type 0 where
  idle : Outcome
  goes_on : Outcome
  ends_with : ℕ → Outcome

-- the node ended in the tick
abbrev pub Ends : Outcome → Type 0
Ends o = (b : ℕ) × (o ≡ ends_with b)

-- the ticks that a node which has not ended has run
abbrev pub ticks : NodeState → ℕ
ticks Untouched = 0
ticks (Running t) = t
ticks (Ended b) = 0

abbrev pub next : Outcome → NodeState → NodeState
next idle s = s
next goes_on s = Running (suc (ticks s))
next (ends_with b) s = Ended b

-- the job after a tick in which each node v had the outcome `outcome v`
abbrev pub after : (ℕ → Outcome) → List NodeState → List NodeState
after outcome [] = []
after outcome (s ∷ job) = next (outcome 0) s ∷ after (λ v. outcome (suc v)) job

-- What the outcomes of a tick must be: only ready nodes ran; a node goes on only while its ticks, this one included, are below its time;
-- an opening ends with a branch that it has, and any other node with 0
pub record Allowed (ns : List Node) (arcs : List Arc) (job : List NodeState) (outcome : ℕ → Outcome) : Type 0 where
  pub only_ready : (v : ℕ) → outcome v ≢ idle → Ready ns arcs job v
  pub below_time : (v : ℕ) → outcome v ≡ goes_on → suc (ticks (state job v)) < time ns v
  pub branch_there : (v b : ℕ) → outcome v ≡ ends_with b → role ns v ≡ Opening → HasBranch ns v b
  pub else_zero : (v b : ℕ) → outcome v ≡ ends_with b → role ns v ≢ Opening → b ≡ 0

-- the job at its release, with so many places; those past the nodes of its task stay untouched
abbrev pub released : ℕ → List NodeState
released places = replicate places Untouched

-- the ticks, 0 or 1, that a node ran in the tick
abbrev pub ran_now : Outcome → ℕ
ran_now idle = 0
ran_now goes_on = 1
ran_now (ends_with b) = 1

-- the states that a job with so many places, one for each node at least, comes to from its release on, each with the ticks that the nodes have run
pub data Reached (places : ℕ) (ns : List Node) (arcs : List Arc) : List NodeState → (ℕ → ℕ) → Type 0 where
  at_release : length ns ≤ places → Reached places ns arcs (released places) (λ v. 0)
  by_tick : {job : List NodeState} {ran : ℕ → ℕ} → Reached places ns arcs job ran → (outcome : ℕ → Outcome) → Allowed ns arcs job outcome
      → Reached places ns arcs (after outcome job) (λ v. ran v + ran_now (outcome v))
