-- Paths in a graph, their values, and the choice over all of them.
use Rattle.std.specs.Prelude.{◌≡◌, ℕ, ◌<◌, ◌≤◌, ◌⊎◌, List, [], ◌∷◌, length, slice_index_or}
use Rattle.table.specs.Whole.{no_node}
use Rattle.table.specs.declared.records.Arc.{Arc}
use Rattle.table.specs.declared.records.Node.{Node}
use Rattle.sets.specs.declared.bit_set.BitSet.{BitSet}
use Rattle.sets.specs.Sets.{Has}
use Rattle.task.specs.Graph.{IsNode, Joined}

-- a list of one or more numbers of nodes: a path ends at a node, or steps from a node onto a path
pub data Path : Type 0 where
  end : ℕ → Path
  step : ℕ → Path → Path

abbrev pub first : Path → ℕ
first (end v) = v
first (step v p) = v

abbrev pub last : Path → ℕ
last (end v) = v
last (step v p) = last p

-- each node of the path has the property
abbrev pub Each : (ℕ → Type 0) → Path → Type 0
Each P (end v) = P v
Each P (step v p) = P v × Each P p

-- v is on the path
abbrev pub Passes : ℕ → Path → Type 0
Passes v (end u) = v ≡ u
Passes v (step u p) = (v ≡ u) ⊎ Passes v p

-- each node but the last is joined to the next
abbrev pub Chain : (ℕ → ℕ → Type 0) → Path → Type 0
Chain Joins (end v) = Unit {0}
Chain Joins (step v p) = Joins v (first p) × Chain Joins p

-- p is a path from the node v to a goal
pub record Leads (Joins : ℕ → ℕ → Type 0) (ns : List Node) (goals : BitSet) (v : ℕ) (p : Path) : Type 0 where
  pub from_node : IsNode ns v
  pub begins : first p ≡ v
  pub chain : Chain Joins p
  pub ends : Has goals (last p)

-- p is a path along the arcs from the node v to a goal
abbrev pub LeadsTo : List Node → List Arc → BitSet → ℕ → Path → Type 0
LeadsTo ns arcs goals v p = Leads (Joined arcs) ns goals v p

-- few nodes, each joined only to nodes with greater numbers
pub record Upwards (ns : List Node) (Joins : ℕ → ℕ → Type 0) : Type 0 where
  pub few_nodes : length ns ≤ 64
  pub forward : (u v : ℕ) → Joins u v → u < v
  pub between_nodes : (u v : ℕ) → Joins u v → IsNode ns v

-- what the node of this number is worth
abbrev pub node_weight : {V : Type 0} → (ℕ → Node → V) → List Node → ℕ → V
node_weight weight ns v = weight v (slice_index_or ns v no_node)

-- the weights of the nodes on a path, each extended by what follows
abbrev pub path_value : {V : Type 0} → (V → V → V) → (ℕ → Node → V) → List Node → Path → V
path_value extension weight ns (end v) = node_weight weight ns v
path_value extension weight ns (step v p) = extension (node_weight weight ns v) (path_value extension weight ns p)

-- the choice of the values of one or more paths
abbrev pub choice_of : {V : Type 0} → (V → V → V) → (Path → V) → Path → List Path → V
choice_of choice value p [] = value p
choice_of choice value p (q ∷ qs) = choice (value p) (choice_of choice value q qs)

abbrev pub Listed : Path → List Path → Type 0
Listed p [] = ⊥
Listed p (q ∷ qs) = (p ≡ q) ⊎ Listed p qs

-- x is the choice of the values of all the paths with the property, of which there is one at least
pub record ChoiceOver {V : Type 0} (choice : V → V → V) (value : Path → V) (Counts : Path → Type 0) (x : V) : Type 0 where
  pub one : Path
  pub others : List Path
  pub only : (p : Path) → Listed p (one ∷ others) → Counts p
  pub every : (p : Path) → Counts p → Listed p (one ∷ others)
  pub chosen : x ≡ choice_of choice value one others
