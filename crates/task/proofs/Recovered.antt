-- A task's ranges and its shape can be tested, so that a lawful task is known as such once it is not denied.
use mathlib.Core.HLevel.{⊥_prop}
use mathlib.Core.Logic.{∥∥₁_elim}
use Rattle.std.proofs.Common.{ℕ, suc, List, length, get_or}
use Rattle.table.specs.declared.records.Arc.{Arc}
use Rattle.table.specs.declared.records.Node.{Node}
use Rattle.table.specs.declared.records.Region.{Region}
use Rattle.table.specs.declared.records.Region.TheVariants.{Top, Branch}
use Rattle.table.specs.declared.records.Role.{Role}
use Rattle.table.specs.declared.records.Role.TheVariants.{Plain, Opening, Closing}
use Rattle.table.specs.declared.records.Table.{Table}
use Rattle.table.specs.declared.records.Timing.{Timing}
use Rattle.table.specs.Range.{TaskInRange, NodeInRange, ArcInRange, RoleInRange, RegionInRange}
use Rattle.table.specs.Whole.{Lawful, no_node, no_arc}
use Rattle.task.specs.Held.{nodes_of, arcs_of, LawfulTask}
use Rattle.task.proofs.Judged.{t_shaped}
use Rattle.task.proofs.Stable.{Undenied, Stable, stable_test, stable_all, stable_le, part}

stable_role : (own : ℕ) (r : Role) → Stable (RoleInRange own r)
stable_role own Plain h = tt
stable_role own Opening h = tt
stable_role own (Closing m) h = stable_le (suc m) own h

stable_region : (own : ℕ) (r : Region) → Stable (RegionInRange own r)
stable_region own Top h = tt
stable_region own (Branch o b) h = (part h (λ p. p.0) (stable_le (suc o) own), part h (λ p. p.1) (stable_le (suc b) 8))

stable_node : (own : ℕ) (n : Node) → Stable (NodeInRange own n)
stable_node own n h = record {
  role = part h (λ r. r.role) (stable_role own n.role);
  region = part h (λ r. r.region) (stable_region own n.region);
  some_time = part h (λ r. r.some_time) (stable_le 1 n.time);
  short_time = part h (λ r. r.short_time) (stable_le n.time 65535);
}

stable_arc_range : (nodes : ℕ) (a : Arc) → Stable (ArcInRange nodes a)
stable_arc_range nodes a h = record {
  upwards = part h (λ r. r.upwards) (stable_le (suc a.from) a.to);
  to_a_node = part h (λ r. r.to_a_node) (stable_le (suc a.to) nodes);
}

stable_task : (t : Timing) → Stable (TaskInRange t)
stable_task t h = record {
  some_period = part h (λ r. r.some_period) (stable_le 1 t.period);
  short_period = part h (λ r. r.short_period) (stable_le t.period 1000000);
  some_deadline = part h (λ r. r.some_deadline) (stable_le 1 t.deadline);
  deadline_in_period = part h (λ r. r.deadline_in_period) (stable_le t.deadline t.period);
}

stable_lawful : (t : Timing) (ns : List Node) (arcs : List Arc) → Stable (Lawful t ns arcs)
stable_lawful t ns arcs h = record {
  some_node = part h (λ l. l.some_node) (stable_le 1 (length ns));
  few_nodes = part h (λ l. l.few_nodes) (stable_le (length ns) 64);
  few_arcs = part h (λ l. l.few_arcs) (stable_le (length arcs) 256);
  task_in_range = part h (λ l. l.task_in_range) (stable_task t);
  nodes_in_range = part h (λ l. l.nodes_in_range) (stable_all (λ v. stable_all (λ i. stable_node v (get_or ns v no_node))));
  arcs_in_range = part h (λ l. l.arcs_in_range) (stable_all (λ k. stable_all (λ i. stable_arc_range (length ns) (get_or arcs k no_arc))));
}

-- a task that a ghost field holds for lawful is lawful
pub lawful_task : (table : Table) → ∥ LawfulTask table ∥₁ → LawfulTask table
lawful_task table t =
    let h : Undenied (LawfulTask table) = λ n. ∥∥₁_elim t ⊥_prop n in
    record {
      in_range = part h (λ l. l.in_range) (stable_lawful table.timing (nodes_of table) (arcs_of table));
      shaped = part h (λ l. l.shaped) (stable_test (t_shaped (nodes_of table) (arcs_of table)));
    }
