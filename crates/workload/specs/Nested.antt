-- What the ranges and the shape of a task say of its nodes alone.
use Rattle.std.specs.Prelude.{ℕ, ◌<◌, ◌≤◌, List, length}
use Rattle.table.specs.declared.records.Node.{Node}
use Rattle.task.specs.Graph.{time, IsNode, HomeOf, BranchesFew}
use Rattle.task.specs.Shape.{AllHomesAreOpenings, AllBranchesCountUp}

abbrev pub HomesSmaller : List Node → Type 0
HomesSmaller ns = (v h : ℕ) → IsNode ns v → HomeOf ns v h → h < v

pub record Nested (ns : List Node) : Type 0 where
  pub few_nodes : length ns ≤ 64
  pub homes_smaller : HomesSmaller ns
  pub branches_few : BranchesFew ns
  pub times_short : (v : ℕ) → IsNode ns v → time ns v ≤ 65535
  pub homes_are_openings : AllHomesAreOpenings ns
  pub branches_count_up : AllBranchesCountUp ns
