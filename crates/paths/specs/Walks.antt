-- What a walk from the last node to the first finds: of each node, the choice over all its paths to a goal.
use Rattle.std.specs.Prelude.{◌≡◌, ℕ, ◌≤◌, List, length, Some, None, Option, slice_index_or}
use Rattle.table.specs.declared.records.Arc.{Arc}
use Rattle.table.specs.declared.records.Node.{Node}
use Rattle.sets.specs.declared.arc_set.ArcSet.{ArcSet}
use Rattle.sets.specs.declared.bit_set.BitSet.{BitSet}
use Rattle.sets.specs.Sets.{Has, HasArc}
use Rattle.task.specs.Graph.{IsNode, Joined}
use Rattle.paths.specs.Paths.{Path, Leads, LeadsTo, ChoiceOver, path_value}

-- the set has an arc wherever one of the list runs, and no other
pub record SetOfArcs (arcs : List Arc) (s : ArcSet) : Type 0 where
  pub only : (u v : ℕ) → HasArc s u v → Joined arcs u v
  pub every : (u v : ℕ) → Joined arcs u v → HasArc s u v

-- the choice over the paths with the property, or none where there is no such path
abbrev pub BestOver : {V : Type 0} → (V → V → V) → (Path → V) → (Path → Type 0) → Option V → Type 0
BestOver choice value Counts (Some x) = ChoiceOver choice value Counts x
BestOver choice value Counts None = (p : Path) → Counts p → ⊥

module _ {V : Type 0} (choice extension : V → V → V) (weight : ℕ → Node → V) (ns : List Node) where
  -- Each node from n on that has a path to a goal is found, and its value is the choice over all such paths
  pub record Known (Joins : ℕ → ℕ → Type 0) (goals : BitSet) (n : ℕ) (found : BitSet) (values : List V) : Type 0 where
    pub value : (v : ℕ) → Has found v → (d : V) → ChoiceOver choice (path_value extension weight ns) (Leads Joins ns goals v) (slice_index_or values v d)
    pub no_path : (v : ℕ) → n ≤ v → (Has found v → ⊥) → (p : Path) → Leads Joins ns goals v p → ⊥
    pub only_nodes : (v : ℕ) → Has found v → IsNode ns v
    pub none_below : (v : ℕ) → Has found v → n ≤ v

  -- The nodes with a path to a goal are found. The value of each is the choice over all such paths; the other places are as before
  pub record Walked (arcs : List Arc) (goals : BitSet) (before after : List V) (found : BitSet) : Type 0 where
    pub value : (v : ℕ) → Has found v → (d : V) → ChoiceOver choice (path_value extension weight ns) (LeadsTo ns arcs goals v) (slice_index_or after v d)
    pub only_nodes : (v : ℕ) → Has found v → IsNode ns v
    pub no_path : (v : ℕ) → (Has found v → ⊥) → (p : Path) → LeadsTo ns arcs goals v p → ⊥
    pub kept : (v : ℕ) → (Has found v → ⊥) → (d : V) → slice_index_or after v d ≡ slice_index_or before v d
    pub same_length : length after ≡ length before

-- the paths from a node to a goal have no two choices
abbrev pub OneChoice : {V : Type 0} → (V → V → V) → (V → V → V) → (ℕ → Node → V) → Type 0
OneChoice {V} choice extension weight =
    (ns : List Node) (arcs : List Arc) (goals : BitSet) (v : ℕ) (x y : V)
    → ChoiceOver choice (path_value extension weight ns) (LeadsTo ns arcs goals v) x → ChoiceOver choice (path_value extension weight ns) (LeadsTo ns arcs goals v) y → x ≡ y
