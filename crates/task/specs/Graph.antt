-- A task's graph, its nodes by their places in the list: regions and units, the kinds of arcs, and the ranges of a table's numbers.
use Rattle.std.specs.Prelude.{◌≡◌, ℕ, ◌<◌, ◌≤◌, ◌≢◌, ◌⊎◌, List, length, slice_index_or}
use Rattle.table.specs.Whole.{no_node, no_arc}
use Rattle.table.specs.declared.records.Arc.{Arc}
use Rattle.table.specs.declared.records.Node.{Node}
use Rattle.table.specs.declared.records.Region.{Region}
use Rattle.table.specs.declared.records.Region.TheVariants.{Branch}
use Rattle.table.specs.declared.records.Role.{Role}
use Rattle.table.specs.declared.records.Role.TheVariants.{Opening, Closing}

abbrev pub role : List Node → ℕ → Role
role ns v = (slice_index_or ns v no_node).role

abbrev pub region : List Node → ℕ → Region
region ns v = (slice_index_or ns v no_node).region

abbrev pub time : List Node → ℕ → ℕ
time ns v = (slice_index_or ns v no_node).time

-- v is the number of a node
abbrev pub IsNode : List Node → ℕ → Type 0
IsNode ns v = v < length ns

-- v lies in a branch of h
abbrev pub HomeOf : List Node → ℕ → ℕ → Type 0
HomeOf ns v h = (b : ℕ) × (region ns v ≡ Branch h b)

-- v is a node of the region r
pub record InRegion (ns : List Node) (r : Region) (v : ℕ) : Type 0 where
  pub is_node : IsNode ns v
  pub lies : region ns v ≡ r

-- some node lies in branch b of h
abbrev pub HasBranch : List Node → ℕ → ℕ → Type 0
HasBranch ns h b = (v : ℕ) × InRegion ns (Branch h b) v

-- c is a closing with the mate o
pub record ClosingOf (ns : List Node) (o c : ℕ) : Type 0 where
  pub is_node : IsNode ns c
  pub closes : role ns c ≡ Closing o

abbrev pub from : List Arc → ℕ → ℕ
from arcs k = (slice_index_or arcs k no_arc).from

abbrev pub to : List Arc → ℕ → ℕ
to arcs k = (slice_index_or arcs k no_arc).to

-- the arc at the place k runs from u to v
pub record ArcAt (arcs : List Arc) (k u v : ℕ) : Type 0 where
  pub is_arc : k < length arcs
  pub starts : from arcs k ≡ u
  pub stops : to arcs k ≡ v

-- some arc runs from u to v
abbrev pub Joined : List Arc → ℕ → ℕ → Type 0
Joined arcs u v = (k : ℕ) × ArcAt arcs k u v

-- A unit is a plain node, or an opening with its closing. It begins with any node but a closing, and ends with any but an opening
abbrev pub BeginsUnit : List Node → ℕ → Type 0
BeginsUnit ns v = (o : ℕ) → role ns v ≢ Closing o

abbrev pub EndsUnit : List Node → ℕ → Type 0
EndsUnit ns v = role ns v ≢ Opening

-- The three kinds of arcs, by the nodes at their ends: from unit to unit inside one region
pub record Inner (ns : List Node) (u v : ℕ) : Type 0 where
  pub within : region ns u ≡ region ns v
  pub leaves : EndsUnit ns u
  pub enters : BeginsUnit ns v

-- from an opening into one of its branches
pub record Entry (ns : List Node) (u v : ℕ) : Type 0 where
  pub opens : role ns u ≡ Opening
  pub enters : BeginsUnit ns v
  pub inside : HomeOf ns v u

-- out of a branch to the closing whose mate is the home
pub record Exit (ns : List Node) (u v : ℕ) : Type 0 where
  pub leaves : EndsUnit ns u
  pub home : ℕ
  pub inside : HomeOf ns u home
  pub closes : role ns v ≡ Closing home

abbrev pub OfAKind : List Node → ℕ → ℕ → Type 0
OfAKind ns u v = Inner ns u v ⊎ Entry ns u v ⊎ Exit ns u v

-- v begins the first unit of its region: no inner arc runs into it
pub record First (ns : List Node) (arcs : List Arc) (v : ℕ) : Type 0 where
  pub begins : BeginsUnit ns v
  pub none_before : (u : ℕ) → Joined arcs u v → Inner ns u v → ⊥

-- v ends the last unit of its region: no inner arc runs out of it
pub record Last (ns : List Node) (arcs : List Arc) (v : ℕ) : Type 0 where
  pub ends : EndsUnit ns v
  pub none_after : (w : ℕ) → Joined arcs v w → Inner ns v w → ⊥

-- branches are numbered below 8
abbrev pub BranchesFew : List Node → Type 0
BranchesFew ns = (v h b : ℕ) → IsNode ns v → region ns v ≡ Branch h b → b < 8

-- the ranges of a table's numbers
pub record Ranged (ns : List Node) (arcs : List Arc) : Type 0 where
  pub some_node : 1 ≤ length ns
  pub few_nodes : length ns ≤ 64
  pub few_arcs : length arcs ≤ 256
  pub homes_smaller : (v h : ℕ) → IsNode ns v → HomeOf ns v h → h < v
  pub branches_few : BranchesFew ns
  pub mates_smaller : (v o : ℕ) → IsNode ns v → role ns v ≡ Closing o → o < v
  pub times_positive : (v : ℕ) → IsNode ns v → 0 < time ns v
  pub times_short : (v : ℕ) → IsNode ns v → time ns v ≤ 65535
  pub arcs_forward : (u v : ℕ) → Joined arcs u v → u < v
  pub arcs_between_nodes : (u v : ℕ) → Joined arcs u v → IsNode ns v
