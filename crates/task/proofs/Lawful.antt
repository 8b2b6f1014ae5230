-- Arcs that are given once, between nodes.
use Rattle.std.proofs.Common.{◌≡◌, ℕ, ◌+◌, ◌<◌, ◌⊎◌, List, length, sym, refl, subst, subst₂, inl, inr, arith}
use Rattle.std.proofs.lemmas.Bool.{cases_eq}
use Rattle.table.specs.declared.records.Arc.{Arc}
use Rattle.table.specs.declared.records.Node.{Node}
use Rattle.sets.specs.declared.arc_set.ArcSet.{ArcSet}
use Rattle.task.specs.Graph.{from, to, OfAKind, Ranged}
use Rattle.sets.specs.Sets.{HasArc, WithArc}
use Rattle.task.specs.Shape.{LawfulArc}

-- the ends of an arc are small enough for a set
pub to_small : (ns : List Node) (arcs : List Arc) → Ranged ns arcs → (k : ℕ) → k < length arcs → to arcs k < 64
to_small ns arcs g k l =
    omega (arith, g.few_nodes, g.arcs_between_nodes (from arcs k) (to arcs k) (k, record { is_arc = l; starts = refl; stops = refl }))

pub from_small : (ns : List Node) (arcs : List Arc) → Ranged ns arcs → (k : ℕ) → k < length arcs → from arcs k < 64
from_small ns arcs g k l =
    omega (arith, to_small ns arcs g k l, g.arcs_forward (from arcs k) (to arcs k) (k, record { is_arc = l; starts = refl; stops = refl }))

-- the set has the arcs before the place m
pub record Sees (arcs : List Arc) (m : ℕ) (s : ArcSet) : Type 0 where
  pub only : (u v : ℕ) → HasArc s u v → (j : ℕ) × (j < m) × (from arcs j ≡ u) × (to arcs j ≡ v)
  pub every : (j : ℕ) → j < m → HasArc s (from arcs j) (to arcs j)

module _ (arcs : List Arc) where
  pub sees_none : (s : ArcSet) → ((u v : ℕ) → HasArc s u v → ⊥) → Sees arcs 0 s
  sees_none s none = record { only = λ u v h. absurd (none u v h); every = λ j l. absurd (omega arith) }

  pub sees_more : (m : ℕ) (s r : ArcSet) → Sees arcs m s → WithArc s (from arcs m) (to arcs m) r → Sees arcs (m + 1) r
  sees_more m s r w new = record { only = λ u v h. only u v (new.no_more u v h); every = λ j l. every j l (cases_eq j m) }
    where
      only : (u v : ℕ) → HasArc s u v ⊎ ((u ≡ from arcs m) × (v ≡ to arcs m)) → (j : ℕ) × (j < m + 1) × (from arcs j ≡ u) × (to arcs j ≡ v)
      only u v (inl h) = let b = w.only u v h in (b.0, omega (arith, b.1), b.2, b.3)
      only u v (inr e) = (m, omega arith, sym e.0, sym e.1)

      every : (j : ℕ) → j < m + 1 → (j ≡ m) ⊎ (j ≡ m → ⊥) → HasArc r (from arcs j) (to arcs j)
      every j l (inl e) = subst (λ (i : ℕ). HasArc r (from arcs i) (to arcs i)) (sym e) new.new
      every j l (inr d) = new.keeps (from arcs j) (to arcs j) (w.every j (grind arith))

  pub fresh : (ns : List Node) (m : ℕ) (s : ArcSet) → Sees arcs m s → (HasArc s (from arcs m) (to arcs m) → ⊥) → OfAKind ns (from arcs m) (to arcs m) → LawfulArc ns arcs m
  fresh ns m s w h kind = record { kind = kind; not_before = λ j l e f. h (subst₂ (HasArc s) e f (w.every j l)) }

  pub not_fresh : (ns : List Node) (m : ℕ) (s : ArcSet) → Sees arcs m s → HasArc s (from arcs m) (to arcs m) → LawfulArc ns arcs m → ⊥
  not_fresh ns m s w h k = let b = w.only (from arcs m) (to arcs m) h in k.not_before b.0 b.1 b.2 b.3
