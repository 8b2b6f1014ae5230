-- Where branches begin and end, by their units and by their arcs.
use Rattle.std.specs.Prelude.{ℕ, List}
use Rattle.table.specs.declared.records.Arc.{Arc}
use Rattle.table.specs.declared.records.Node.{Node}
use Rattle.sets.specs.declared.bit_set.BitSet.{BitSet}
use Rattle.task.specs.declared.kinds.ArcKind.TheVariants.{Entry as entry, Exit as exit}
use Rattle.task.specs.declared.wiring.Gates.{Gates}
use Rattle.task.specs.Deciding.{ReachedBy, LeftBy, FirstNode, LastNode}
use Rattle.task.specs.Graph.{HomeOf}
use Rattle.sets.specs.Sets.{Has, Marks}

-- both sets have n, or neither
pub record Agree (a b : BitSet) (n : ℕ) : Type 0 where
  pub forth : Has a n → Has b n
  pub back : Has b n → Has a n

pub record GatesOf (ns : List Node) (arcs : List Arc) (gates : Gates) : Type 0 where
  pub firsts : Marks (FirstNode ns arcs) gates.firsts
  pub entered : Marks (ReachedBy ns arcs entry) gates.entered
  pub lasts : Marks (LastNode ns arcs) gates.lasts
  pub left : Marks (LeftBy ns arcs exit) gates.left

-- in a branch v is entered where it is first, and left where it is last
pub record Gated (ns : List Node) (gates : Gates) (v : ℕ) : Type 0 where
  pub entry : (h : ℕ) → HomeOf ns v h → Agree gates.firsts gates.entered v
  pub exit : (h : ℕ) → HomeOf ns v h → Agree gates.lasts gates.left v
