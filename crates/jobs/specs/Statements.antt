-- What is proved of every job. Assumes nothing.
use Rattle.std.specs.Prelude.{◌≡◌, ℕ, ◌+◌, ◌<◌, ◌≢◌, ◌⊎◌, List, length}
use Rattle.table.specs.declared.records.Arc.{Arc}
use Rattle.table.specs.declared.records.Node.{Node}
use Rattle.task.specs.Graph.{IsNode, Joined, Ranged}
use Rattle.task.specs.Shape.{Shaped}
use Rattle.paths.specs.Instances.{path_ticks}
use Rattle.paths.specs.Paths.{Path, end, step, last, Each}
use Rattle.workload.specs.Measures.{sum_below, total, PathOf, IsGreatestLength, IsGreatestTotal}
use Rattle.workload.specs.Settling.{Settling, Takes}
use Rattle.jobs.specs.declared.node_state.NodeState.{NodeState}
use Rattle.jobs.specs.declared.node_state.NodeState.TheVariants.{Ended}
use Rattle.jobs.specs.Job.{state, HasEnded, Taken, Ready, JobEnded, Outcome, Ends, after, Allowed, Reached}
use Rattle.jobs.specs.Sharing.{MayShare}

-- a job that has not ended has a ready node
abbrev pub Progress : Type 0
Progress =
    (ns : List Node) (arcs : List Arc) (job : List NodeState) → Ranged ns arcs → Shaped ns arcs
    → (JobEnded ns arcs job → ⊥) → (v : ℕ) × Ready ns arcs job v

-- a node with an arc to w ended in the tick
pub record LedByEnd (arcs : List Arc) (outcome : ℕ → Outcome) (w : ℕ) : Type 0 where
  pub leader : ℕ
  pub joined : Joined arcs leader w
  pub ends : Ends (outcome leader)

-- a node that is ready after a tick was ready before, or a node with an arc to it ended in the tick
abbrev pub Step : Type 0
Step =
    (places : ℕ) (ns : List Node) (arcs : List Arc) (job : List NodeState) (ran : ℕ → ℕ) (outcome : ℕ → Outcome) → Ranged ns arcs → Shaped ns arcs
    → Reached places ns arcs job ran → Allowed ns arcs job outcome
    → (w : ℕ) → Ready ns arcs (after outcome job) w → Ready ns arcs job w ⊎ LedByEnd arcs outcome w

-- a path of taken nodes that ends in a ready one
pub record PathToReady (ns : List Node) (arcs : List Arc) (job : List NodeState) (p : Path) : Type 0 where
  pub path : PathOf ns arcs p
  pub taken : Each (Taken ns job) p
  pub ready : Ready ns arcs job (last p)

-- the ticks that the nodes of a path have run
abbrev pub ran_along : (ℕ → ℕ) → Path → ℕ
ran_along ran (end v) = ran v
ran_along ran (step v p) = ran v + ran_along ran p

-- the ticks that all nodes have run
abbrev pub ran_in_all : List Node → (ℕ → ℕ) → ℕ
ran_in_all ns ran = sum_below (length ns) ran

-- a settling that keeps the picks made so far has more in times than the job has run, along the path and in all
pub record ClosesBelow (ns : List Node) (job : List NodeState) (ran : ℕ → ℕ) (p : Path) (pick : ℕ → ℕ) : Type 0 where
  pub settling : Settling ns pick
  pub keeps_picks : (o b : ℕ) → state job o ≡ Ended b → pick o ≡ b
  pub takes_path : Each (Takes ns pick) p
  pub path_below : ran_along ran p < path_ticks ns p
  pub total_below : ran_in_all ns ran < total ns pick

-- there is such a settling for each path of taken nodes that ends in a ready one
abbrev pub Close : Type 0
Close =
    (places : ℕ) (ns : List Node) (arcs : List Arc) (job : List NodeState) (ran : ℕ → ℕ) → Ranged ns arcs → Shaped ns arcs → Reached places ns arcs job ran
    → (p : Path) → PathToReady ns arcs job p → (pick : ℕ → ℕ) × ClosesBelow ns job ran p pick

-- so the job has run less than the greatest length along the path, and less than the greatest total in all
abbrev pub BelowGreatest : Type 0
BelowGreatest =
    (places : ℕ) (ns : List Node) (arcs : List Arc) (job : List NodeState) (ran : ℕ → ℕ) → Ranged ns arcs → Shaped ns arcs → Reached places ns arcs job ran
    → (l w : ℕ) → IsGreatestLength ns arcs l → IsGreatestTotal ns w
    → (p : Path) → PathToReady ns arcs job p → (ran_along ran p < l) × (ran_in_all ns ran < w)

-- a job that has ended has ended every node that it took
abbrev pub EndedWhole : Type 0
EndedWhole =
    (places : ℕ) (ns : List Node) (arcs : List Arc) (job : List NodeState) (ran : ℕ → ℕ) → Ranged ns arcs → Shaped ns arcs → Reached places ns arcs job ran
    → JobEnded ns arcs job → (v : ℕ) → IsNode ns v → Taken ns job v → HasEnded job v

-- two nodes that are ready at the same time may share a tick
abbrev pub ReadyMayShare : Type 0
ReadyMayShare =
    (places : ℕ) (ns : List Node) (arcs : List Arc) (job : List NodeState) (ran : ℕ → ℕ) → Ranged ns arcs → Shaped ns arcs → Reached places ns arcs job ran
    → (u v : ℕ) → u ≢ v → Ready ns arcs job u → Ready ns arcs job v → MayShare ns arcs u v
