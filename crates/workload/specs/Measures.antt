-- The two numbers of a task, each the greatest over all settlings: the length of its critical path, and its worst-case workload.
use Rattle.std.specs.Prelude.{◌≡◌, ℕ, zero, suc, ◌+◌, ◌≤◌, cond, List, length, slice_index}
use Rattle.table.specs.declared.records.Arc.{Arc}
use Rattle.table.specs.declared.records.Node.{Node}
use Rattle.task.specs.Graph.{time, IsNode, Joined}
use Rattle.paths.specs.Instances.{path_ticks}
use Rattle.paths.specs.Paths.{Path, first, Each, Chain}
use Rattle.workload.specs.Settling.{Settling, takes, Takes}

-- f 0 + .. + f (n - 1)
abbrev pub sum_below : ℕ → (ℕ → ℕ) → ℕ
sum_below zero f = 0
sum_below (suc n) f = sum_below n f + f n

-- the time of v where it is taken, and else 0
abbrev pub taken_time : List Node → (ℕ → ℕ) → ℕ → ℕ
taken_time ns pick v = cond (takes ns pick v) (time ns v) 0

-- the sum of the times of the nodes that are taken
abbrev pub total : List Node → (ℕ → ℕ) → ℕ
total ns pick = sum_below (length ns) (taken_time ns pick)

-- a path of the task: nodes, each joined to the next by an arc
pub record PathOf (ns : List Node) (arcs : List Arc) (p : Path) : Type 0 where
  pub nodes : Each (IsNode ns) p
  pub joined : Chain (Joined arcs) p

-- a path of nodes that the settling takes
pub record PathTaken (ns : List Node) (arcs : List Arc) (pick : ℕ → ℕ) (p : Path) : Type 0 where
  pub settling : Settling ns pick
  pub path : PathOf ns arcs p
  pub taken : Each (Takes ns pick) p

-- the greatest length over all settlings and the paths that they take: attained, and never exceeded
pub record IsGreatestLength (ns : List Node) (arcs : List Arc) (l : ℕ) : Type 0 where
  pub attained : (pick : ℕ → ℕ) × (p : Path) × PathTaken ns arcs pick p × (path_ticks ns p ≡ l)
  pub not_exceeded : (pick : ℕ → ℕ) (p : Path) → PathTaken ns arcs pick p → path_ticks ns p ≤ l

-- the greatest total over all settlings
pub record IsGreatestTotal (ns : List Node) (w : ℕ) : Type 0 where
  pub attained : (pick : ℕ → ℕ) × Settling ns pick × (total ns pick ≡ w)
  pub not_exceeded : (pick : ℕ → ℕ) → Settling ns pick → total ns pick ≤ w

-- the greatest length over all paths, whether a settling takes them or not
pub record IsLongestPath (ns : List Node) (arcs : List Arc) (l : ℕ) : Type 0 where
  pub attained : (p : Path) × PathOf ns arcs p × (path_ticks ns p ≡ l)
  pub not_exceeded : (p : Path) → PathOf ns arcs p → path_ticks ns p ≤ l

-- the greatest length over the paths that begin with the node v
pub record IsLongestFrom (ns : List Node) (arcs : List Arc) (v l : ℕ) : Type 0 where
  pub attained : (p : Path) × PathOf ns arcs p × (first p ≡ v) × (path_ticks ns p ≡ l)
  pub not_exceeded : (p : Path) → PathOf ns arcs p → first p ≡ v → path_ticks ns p ≤ l

-- by the node's number, the greatest length from each node on; 0 where there is no node
pub record Lengths (ns : List Node) (arcs : List Arc) (values : List ℕ) : Type 0 where
  pub from_node : (v : ℕ) → IsNode ns v → IsLongestFrom ns arcs v (slice_index values v)
  pub elsewhere : (v : ℕ) → (IsNode ns v → ⊥) → slice_index values v ≡ 0
  pub room : length ns ≤ length values
