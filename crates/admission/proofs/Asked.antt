-- A lawful task has a demand in range.
use Rattle.std.proofs.Common.{ℕ, ◌≤◌}
use Rattle.table.specs.declared.records.Table.{Table}
use Rattle.task.specs.Held.{nodes_of, arcs_of, LawfulTask}
use Rattle.workload.specs.Measures.{IsGreatestLength, IsGreatestTotal}
use Rattle.workload.proofs.Tasks.{task_ranged}
use Rattle.admission.proofs.Sized.{length_positive, length_in_total, total_small}

module _ (table : Table) (lawful : LawfulTask table) (l w : ℕ)
    (longest : IsGreatestLength (nodes_of table) (arcs_of table) l) (most : IsGreatestTotal (nodes_of table) w) where
  pub record InDemand : Type 0 where
    pub some_deadline : 1 ≤ table.timing.deadline
    pub in_period : table.timing.deadline ≤ table.timing.period
    pub short_period : table.timing.period ≤ 1000000
    pub some_length : 1 ≤ l
    pub in_total : l ≤ w
    pub small_total : w ≤ 4194240

  pub in_demand : InDemand
  in_demand =
      let ns = nodes_of table in
      let arcs = arcs_of table in
      let r = task_ranged table lawful in
      let timed = lawful.in_range.task_in_range in
      record {
        some_deadline = timed.some_deadline;
        in_period = timed.deadline_in_period;
        short_period = timed.short_period;
        some_length = length_positive ns arcs r lawful.shaped l longest;
        in_total = length_in_total ns arcs r l w longest most;
        small_total = total_small ns arcs r w most;
      }
