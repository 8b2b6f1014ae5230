-- The nodes at which arcs of a kind have an end.
use Rattle.std.proofs.Common.{◌≡◌, ℕ, ◌<◌, List, length, get_or, sym, refl, subst, subst₂, arith}
use Rattle.table.specs.declared.records.Arc.{Arc}
use Rattle.table.specs.declared.records.Node.{Node}
use Rattle.sets.specs.declared.bit_set.BitSet.{BitSet}
use Rattle.task.specs.declared.kinds.ArcKind.{ArcKind}
use Rattle.task.specs.declared.reach.ArcEnd.{ArcEnd}
use Rattle.task.specs.declared.reach.ArcEnd.TheVariants.{Start as start, Stop as stop}
use Rattle.table.specs.Whole.{no_arc}
use Rattle.task.specs.Deciding.{OfKind, MetBy, node_at}
use Rattle.task.specs.Graph.{from, to, Ranged}
use Rattle.sets.specs.Sets.{Marks}
use Rattle.sets.proofs.Marked.{SomeBelow, marks_like}
use Rattle.task.proofs.Lawful.{to_small, from_small}

-- the node at this end of the arc at the place k
abbrev pub end_of : List Arc → ArcEnd → ℕ → ℕ
end_of arcs end k = node_at (get_or arcs k no_arc) end

pub end_small : (ns : List Node) (arcs : List Arc) → Ranged ns arcs → (end : ArcEnd) (k : ℕ) → k < length arcs → end_of arcs end k < 64
end_small ns arcs r start k l = from_small ns arcs r k l
end_small ns arcs r stop k l = to_small ns arcs r k l

module _ (ns : List Node) (arcs : List Arc) (kind : ArcKind) where
  -- the arc at the place k is of the kind, and has this end at v
  abbrev pub EndsAt : ArcEnd → ℕ → ℕ → Type 0
  EndsAt end k v = (v ≡ end_of arcs end k) × OfKind ns kind (from arcs k) (to arcs k)

  met : (m : ℕ) → m ≡ length arcs → (end : ArcEnd) (v : ℕ) → SomeBelow (EndsAt end) m v → MetBy ns arcs kind end v
  met m e start u (k, l, q) =
      (to arcs k, (k, record { is_arc = omega arith; starts = sym q.0; stops = refl }), subst (λ (x : ℕ). OfKind ns kind x (to arcs k)) (sym q.0) q.1)
  met m e stop v (k, l, q) =
      (from arcs k, (k, record { is_arc = omega arith; starts = refl; stops = sym q.0 }), subst (OfKind ns kind (from arcs k)) (sym q.0) q.1)

  met_at : (m : ℕ) → m ≡ length arcs → (end : ArcEnd) (v : ℕ) → MetBy ns arcs kind end v → SomeBelow (EndsAt end) m v
  met_at m e start u (v, (k, a), o) = (k, (let l = a.is_arc in omega arith), (sym a.starts, subst₂ (OfKind ns kind) (sym a.starts) (sym a.stops) o))
  met_at m e stop v (u, (k, a), o) = (k, (let l = a.is_arc in omega arith), (sym a.stops, subst₂ (OfKind ns kind) (sym a.starts) (sym a.stops) o))

  pub met_marked : (m : ℕ) (end : ArcEnd) (s : BitSet) → m ≡ length arcs → Marks (SomeBelow (EndsAt end) m) s → Marks (MetBy ns arcs kind end) s
  met_marked m end s e w = marks_like w (met m e end) (met_at m e end)
