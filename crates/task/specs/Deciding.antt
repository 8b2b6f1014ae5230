-- Words for the parts of the tests by which the rules are decided.
use Rattle.std.specs.Prelude.{ℕ, List}
use Rattle.table.specs.declared.records.Arc.{Arc}
use Rattle.table.specs.declared.records.Node.{Node}
use Rattle.table.specs.declared.records.Region.{Region}
use Rattle.sets.specs.declared.bit_set.BitSet.{BitSet}
use Rattle.task.specs.declared.kinds.ArcKind.{ArcKind}
use Rattle.task.specs.declared.kinds.ArcKind.TheVariants.{Inner as inner, Entry as entry, Exit as exit}
use Rattle.task.specs.declared.reach.ArcEnd.{ArcEnd}
use Rattle.task.specs.declared.reach.ArcEnd.TheVariants.{Start as start, Stop as stop}
use Rattle.task.specs.Graph.{IsNode, InRegion, BeginsUnit, EndsUnit, Inner, Entry, Exit, Joined, First, Last}
use Rattle.sets.specs.Sets.{JustOne, Has}

-- an arc from u to v is of this kind
abbrev pub OfKind : List Node → ArcKind → ℕ → ℕ → Type 0
OfKind ns inner u v = Inner ns u v
OfKind ns entry u v = Entry ns u v
OfKind ns exit u v = Exit ns u v

-- an arc of the kind runs into v
abbrev pub ReachedBy : List Node → List Arc → ArcKind → ℕ → Type 0
ReachedBy ns arcs kind v = (u : ℕ) × Joined arcs u v × OfKind ns kind u v

-- an arc of the kind runs out of u
abbrev pub LeftBy : List Node → List Arc → ArcKind → ℕ → Type 0
LeftBy ns arcs kind u = (v : ℕ) × Joined arcs u v × OfKind ns kind u v

-- the node at this end of an arc
abbrev pub node_at : Arc → ArcEnd → ℕ
node_at arc start = arc.from
node_at arc stop = arc.to

-- an arc of the kind has this end at v
abbrev pub MetBy : List Node → List Arc → ArcKind → ArcEnd → ℕ → Type 0
MetBy ns arcs kind start v = LeftBy ns arcs kind v
MetBy ns arcs kind stop v = ReachedBy ns arcs kind v

-- the node v is first in its region
pub record FirstNode (ns : List Node) (arcs : List Arc) (v : ℕ) : Type 0 where
  pub is_node : IsNode ns v
  pub first : First ns arcs v

-- the node v is last in its region
pub record LastNode (ns : List Node) (arcs : List Arc) (v : ℕ) : Type 0 where
  pub is_node : IsNode ns v
  pub last : Last ns arcs v

-- the node v is first in its region, where arcs stop, or last, where they start
abbrev pub Outermost : List Node → List Arc → ArcEnd → ℕ → Type 0
Outermost ns arcs start v = LastNode ns arcs v
Outermost ns arcs stop v = FirstNode ns arcs v

-- arcs between units stop where a unit begins, and start where one ends
abbrev pub MayMeet : List Node → ArcEnd → ℕ → Type 0
MayMeet ns start v = EndsUnit ns v
MayMeet ns stop v = BeginsUnit ns v

-- v begins a unit, and is not in the set
pub record BeginsOutside (ns : List Node) (s : BitSet) (v : ℕ) : Type 0 where
  pub begins : BeginsUnit ns v
  pub outside : Has s v → ⊥

-- v ends a unit, and is not in the set
pub record EndsOutside (ns : List Node) (s : BitSet) (v : ℕ) : Type 0 where
  pub ends : EndsUnit ns v
  pub outside : Has s v → ⊥

-- arcs between units may have this end at v, and v is not in the set
abbrev pub MeetsOutside : List Node → ArcEnd → BitSet → ℕ → Type 0
MeetsOutside ns start s v = EndsOutside ns s v
MeetsOutside ns stop s v = BeginsOutside ns s v

-- v is a node of the region, and in the set
pub record Within (ns : List Node) (r : Region) (s : BitSet) (v : ℕ) : Type 0 where
  pub lies : InRegion ns r v
  pub inside : Has s v

-- just one node of either set lies in the region
pub record OneOfEach (ns : List Node) (firsts lasts : BitSet) (r : Region) : Type 0 where
  pub one_first : JustOne (Within ns r firsts)
  pub one_last : JustOne (Within ns r lasts)
