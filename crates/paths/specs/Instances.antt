-- The values of two path algebras: the ticks along a path, and the nodes on it.
use Rattle.std.specs.Prelude.{◌≡◌, ℕ, ◌+◌, ◌-◌, ◌^◌, ◌≤◌, min, max, cond, List, nat_lt}
use Rattle.table.specs.declared.records.Arc.{Arc}
use Rattle.table.specs.declared.records.Node.{Node}
use Rattle.sets.specs.declared.bit_set.BitSet.{BitSet}
use Rattle.sets.specs.Sets.{Has, ◌∪◌}
use Rattle.task.specs.Graph.{Joined, Ranged, time}
use Rattle.paths.specs.Paths.{Path, end, step, Passes, LeadsTo, Upwards, ChoiceOver, path_value}

-- the sum, or what 64 bits can hold
abbrev pub capped_sum : ℕ → ℕ → ℕ
capped_sum a b = min (a + b) (2 ^ 64 - 1)

abbrev pub node_ticks : ℕ → Node → ℕ
node_ticks number node = node.time

-- the set of just the number, or of none where it is too large for a set
abbrev pub node_alone : ℕ → Node → BitSet
node_alone number node = cond (nat_lt number 64) (record { bits = 2 ^ number }) (record { bits = 0 })

-- x is the greatest of the values of the paths with the property
pub record Greatest (value : Path → ℕ) (Counts : Path → Type 0) (x : ℕ) : Type 0 where
  pub at_least : (p : Path) → Counts p → value p ≤ x
  pub attained : (p : Path) × Counts p × (value p ≡ x)

-- the choice over the paths from a node to a goal is the greatest of their ticks
abbrev pub TicksAreGreatest : Type 0
TicksAreGreatest =
    (ns : List Node) (arcs : List Arc) (goals : BitSet) (v x : ℕ)
    → ChoiceOver max (path_value capped_sum node_ticks ns) (LeadsTo ns arcs goals v) x → Greatest (path_value capped_sum node_ticks ns) (LeadsTo ns arcs goals v) x

-- the times of the nodes on a path, added up
abbrev pub path_ticks : List Node → Path → ℕ
path_ticks ns (end v) = time ns v
path_ticks ns (step v p) = time ns v + path_ticks ns p

-- in a task in range no path has so many ticks that their sum is capped
abbrev pub TicksAddUp : Type 0
TicksAddUp =
    (ns : List Node) (arcs : List Arc) (goals : BitSet) (v : ℕ) (p : Path)
    → Ranged ns arcs → LeadsTo ns arcs goals v p → path_value capped_sum node_ticks ns p ≡ path_ticks ns p

-- u is in the set exactly where some path with the property passes through it
pub record Passed (Counts : Path → Type 0) (s : BitSet) (u : ℕ) : Type 0 where
  pub only : Has s u → (p : Path) × Counts p × Passes u p
  pub every : (p : Path) → Counts p → Passes u p → Has s u

-- the choice over the paths from a node to a goal is the set of the nodes through which they pass
abbrev pub ReachIsPassed : Type 0
ReachIsPassed =
    (ns : List Node) (arcs : List Arc) (goals : BitSet) (v : ℕ) (s : BitSet)
    → Upwards ns (Joined arcs) → ChoiceOver ◌∪◌ (path_value ◌∪◌ node_alone ns) (LeadsTo ns arcs goals v) s → (u : ℕ) → Passed (LeadsTo ns arcs goals v) s u
