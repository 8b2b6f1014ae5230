-- The ticks along a path, added up.
use Rattle.std.proofs.Common.{◌≡◌, ◌-◌, ◌*◌, ◌≤◌, List, length, refl, ap, ◌∙◌, arith}
use native.Mathlib.Nat.{min-eq_left}
use Rattle.table.specs.declared.records.Arc.{Arc}
use Rattle.table.specs.declared.records.Node.{Node}
use Rattle.task.specs.Graph.{IsNode, Joined, Ranged, time}
use Rattle.paths.specs.Paths.{Path, end, step, first, Chain, path_value}
use Rattle.paths.specs.Instances.{capped_sum, node_ticks, path_ticks}

module _ (ns : List Node) (arcs : List Arc) (ranged : Ranged ns arcs) where
  -- a path passes a node once at most, as its numbers grow
  few_ticks : (p : Path) → IsNode ns (first p) → Chain (Joined arcs) p → path_ticks ns p ≤ 65535 * (length ns - first p)
  few_ticks (end v) n c = omega (arith, ranged.times_short v n)
  few_ticks (step v p) n c =
      let next = ranged.arcs_between_nodes v (first p) c.0 in
      omega (arith, ranged.times_short v n, few_ticks p next c.1, ranged.arcs_forward v (first p) c.0, next)

  pub not_capped : (p : Path) → IsNode ns (first p) → Chain (Joined arcs) p → path_value capped_sum node_ticks ns p ≡ path_ticks ns p
  not_capped (end v) n c = refl
  not_capped (step v p) n c =
      ap (capped_sum (time ns v)) (not_capped p (ranged.arcs_between_nodes v (first p) c.0) c.1)
      ∙ min-eq_left (omega (arith, few_ticks (step v p) n c, ranged.few_nodes))
