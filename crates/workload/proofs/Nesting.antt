-- The nodes of a task are nested.
use Rattle.workload.specs.Statements.{TasksNest}

pub tasks_nest_lem : TasksNest
tasks_nest_lem ns arcs r s =
    record {
      few_nodes = r.few_nodes;
      homes_smaller = r.homes_smaller;
      branches_few = r.branches_few;
      times_short = r.times_short;
      homes_are_openings = s.homes_are_openings;
      branches_count_up = s.branches_count_up;
    }
