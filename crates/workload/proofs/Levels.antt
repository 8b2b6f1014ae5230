-- Bounds on the lengths of paths: a level for each node that its time and the level of any next node come up to.
use Rattle.std.proofs.Common.{ℕ, ◌+◌, ◌≤◌, List, length, arith}
use Rattle.table.specs.declared.records.Arc.{Arc}
use Rattle.table.specs.declared.records.Node.{Node}
use Rattle.task.specs.Graph.{time, IsNode, Joined}
use Rattle.paths.specs.Paths.{Path, end, step, first, Each, Chain}
use Rattle.paths.specs.Instances.{path_ticks}
use Rattle.task.proofs.Judged.{t_each_arc}
use Rattle.task.proofs.Computed.{Test, t_like, t_and, t_le, t_all}

pub record Levels (ns : List Node) (arcs : List Arc) (level : ℕ → ℕ) (most : ℕ) : Type 0 where
  pub alone : (v : ℕ) → IsNode ns v → time ns v ≤ level v
  pub onward : (u v : ℕ) → Joined arcs u v → time ns u + level v ≤ level u
  pub below : (v : ℕ) → IsNode ns v → level v ≤ most

abbrev pub t_levels : (ns : List Node) (arcs : List Arc) (level : ℕ → ℕ) (most : ℕ) → Test (Levels ns arcs level most)
t_levels ns arcs level most =
    t_like (λ p. record { alone = p.0; onward = p.1.0; below = p.1.1 }) (λ l. (l.alone, (l.onward, l.below)))
    (t_and (t_all (length ns) (λ v. time ns v ≤ level v) (λ v. t_le (time ns v) (level v)))
    (t_and (t_each_arc ns arcs (λ u v. time ns u + level v ≤ level u) (λ u v. t_le (time ns u + level v) (level u)))
    (t_all (length ns) (λ v. level v ≤ most) (λ v. t_le (level v) most))))

module _ (ns : List Node) (arcs : List Arc) (level : ℕ → ℕ) (most : ℕ) (levels : Levels ns arcs level most) where
  length_below_level : (p : Path) → Each (IsNode ns) p → Chain (Joined arcs) p → path_ticks ns p ≤ level (first p)
  length_below_level (end v) i c = levels.alone v i
  length_below_level (step v p) is c = omega (arith, length_below_level p is.1 c.1, levels.onward v (first p) c.0)

  pub length_below : (p : Path) → Each (IsNode ns) p → Chain (Joined arcs) p → path_ticks ns p ≤ most
  length_below (end v) i c = omega (arith, levels.alone v i, levels.below v i)
  length_below (step v p) is c = omega (arith, length_below_level (step v p) is c, levels.below v is.0)
