-- What holds of the settlings and the paths of every task.
use Rattle.std.specs.Prelude.{◌≡◌, ℕ, List}
use Rattle.table.specs.declared.records.Arc.{Arc}
use Rattle.table.specs.declared.records.Node.{Node}
use Rattle.task.specs.Graph.{Ranged}
use Rattle.task.specs.Shape.{Shaped}
use Rattle.paths.specs.Paths.{Path}
use Rattle.workload.specs.Nested.{Nested}
use Rattle.workload.specs.Measures.{PathOf, PathTaken, IsGreatestLength, IsGreatestTotal, IsLongestPath}

-- every path of arcs is taken whole by some settling
abbrev pub PathsSettle : Type 0
PathsSettle =
    (ns : List Node) (arcs : List Arc) → Ranged ns arcs → Shaped ns arcs
    → (p : Path) → PathOf ns arcs p → (pick : ℕ → ℕ) × PathTaken ns arcs pick p

-- so the greatest length is that of the longest path
abbrev pub LongestPathIsLength : Type 0
LongestPathIsLength =
    (ns : List Node) (arcs : List Arc) (l : ℕ) → Ranged ns arcs → Shaped ns arcs → IsLongestPath ns arcs l → IsGreatestLength ns arcs l

-- no two values are both the greatest
pub record OneGreatest : Type 0 where
  pub of_lengths : (ns : List Node) (arcs : List Arc) (k l : ℕ) → IsGreatestLength ns arcs k → IsGreatestLength ns arcs l → k ≡ l
  pub of_totals : (ns : List Node) (k l : ℕ) → IsGreatestTotal ns k → IsGreatestTotal ns l → k ≡ l

-- the nodes of every task are nested
abbrev pub TasksNest : Type 0
TasksNest = (ns : List Node) (arcs : List Arc) → Ranged ns arcs → Shaped ns arcs → Nested ns
