-- The first and the last units of regions.
use Rattle.std.proofs.Common.{ℕ, List}
use Rattle.table.specs.declared.records.Arc.{Arc}
use Rattle.table.specs.declared.records.Node.{Node}
use Rattle.table.specs.declared.records.Region.{Region}
use Rattle.sets.specs.declared.bit_set.BitSet.{BitSet}
use Rattle.task.specs.declared.kinds.ArcKind.TheVariants.{Inner as inner}
use Rattle.task.specs.declared.reach.ArcEnd.{ArcEnd}
use Rattle.task.specs.declared.reach.ArcEnd.TheVariants.{Start as start, Stop as stop}
use Rattle.task.specs.Deciding.{ReachedBy, LeftBy, MetBy, FirstNode, LastNode, Outermost, BeginsOutside, EndsOutside, MeetsOutside, Within, OneOfEach}
use Rattle.task.specs.Graph.{IsNode, InRegion, First, Last}
use Rattle.sets.specs.Sets.{JustOne, Marks}
use Rattle.task.specs.Shape.{HasEnds}

pub just_one_like : (P Q : ℕ → Type 0) → ((v : ℕ) → P v → Q v) → ((v : ℕ) → Q v → P v) → JustOne P → JustOne Q
just_one_like P Q f g j = record { the_one = j.the_one; has_it = f j.the_one j.has_it; no_other = λ w q. j.no_other w (g w q) }

module _ (ns : List Node) (arcs : List Arc) where
  first_outside : (s : BitSet) → Marks (ReachedBy ns arcs inner) s → (v : ℕ) → BeginsOutside ns s v → First ns arcs v
  first_outside s m v b = record { begins = b.begins; none_before = λ u j i. b.outside (m.every v (u, j, i)) }

  outside_first : (s : BitSet) → Marks (ReachedBy ns arcs inner) s → (v : ℕ) → First ns arcs v → BeginsOutside ns s v
  outside_first s m v f = record { begins = f.begins; outside = λ h. let r = m.only v h in f.none_before r.0 r.1 r.2 }

  last_outside : (s : BitSet) → Marks (LeftBy ns arcs inner) s → (v : ℕ) → EndsOutside ns s v → Last ns arcs v
  last_outside s m v b = record { ends = b.ends; none_after = λ w j i. b.outside (m.every v (w, j, i)) }

  outside_last : (s : BitSet) → Marks (LeftBy ns arcs inner) s → (v : ℕ) → Last ns arcs v → EndsOutside ns s v
  outside_last s m v f = record { ends = f.ends; outside = λ h. let r = m.only v h in f.none_after r.0 r.1 r.2 }

  -- by the end that arcs between units have at the node
  module _ (s : BitSet) where
    pub outermost_outside : (end : ArcEnd) → Marks (MetBy ns arcs inner end) s → (v : ℕ) → IsNode ns v → MeetsOutside ns end s v → Outermost ns arcs end v
    outermost_outside start m v n o = record { is_node = n; last = last_outside s m v o }
    outermost_outside stop m v n o = record { is_node = n; first = first_outside s m v o }

    pub outside_outermost : (end : ArcEnd) → Marks (MetBy ns arcs inner end) s → (v : ℕ) → Outermost ns arcs end v → MeetsOutside ns end s v
    outside_outermost start m v o = outside_last s m v o.last
    outside_outermost stop m v o = outside_first s m v o.first

  pub outermost_is_node : (end : ArcEnd) (v : ℕ) → Outermost ns arcs end v → IsNode ns v
  outermost_is_node start v o = o.is_node
  outermost_is_node stop v o = o.is_node

  module _ (firsts lasts : BitSet) (f : Marks (FirstNode ns arcs) firsts) (l : Marks (LastNode ns arcs) lasts) (r : Region) where
    within_first : (u : ℕ) → Within ns r firsts u → InRegion ns r u × First ns arcs u
    within_first u w = (w.lies, (f.only u w.inside).first)

    first_within : (u : ℕ) → InRegion ns r u × First ns arcs u → Within ns r firsts u
    first_within u p = record { lies = p.0; inside = f.every u (record { is_node = p.0.is_node; first = p.1 }) }

    within_last : (u : ℕ) → Within ns r lasts u → InRegion ns r u × Last ns arcs u
    within_last u w = (w.lies, (l.only u w.inside).last)

    last_within : (u : ℕ) → InRegion ns r u × Last ns arcs u → Within ns r lasts u
    last_within u p = record { lies = p.0; inside = l.every u (record { is_node = p.0.is_node; last = p.1 }) }

    pub ends_of_each : OneOfEach ns firsts lasts r → HasEnds ns arcs r
    ends_of_each o =
        record { one_first = just_one_like _ _ within_first first_within o.one_first; one_last = just_one_like _ _ within_last last_within o.one_last }

    pub each_of_ends : HasEnds ns arcs r → OneOfEach ns firsts lasts r
    each_of_ends o =
        record { one_first = just_one_like _ _ first_within within_first o.one_first; one_last = just_one_like _ _ last_within within_last o.one_last }
