-- A plan's tasks with their bounds, as a system whose jobs are those of the tasks' graphs. Assumes nothing.
use Rattle.std.specs.Prelude.{ℕ, ◌+◌, ◌-◌, ◌*◌, Bool, true, false, List, ℤ, Some, None, Option}
use Rattle.table.specs.declared.records.Table.{Table}
use Rattle.task.specs.Held.{nodes_of, arcs_of}
use Rattle.order.specs.declared.Party.{Party}
use Rattle.bounds.specs.declared.plan.Demand.{Demand}
use Rattle.bounds.specs.declared.plan.Plan.{Plan}
use Rattle.bounds.specs.Equation.{Caps, held, bound}
use Rattle.jobs.specs.Job.{Outcome}
use Rattle.timing.specs.System.{Plan as Numbers, System}
use Rattle.response.specs.Jobs.{graph_jobs}

-- who goes ahead of whom
abbrev pub Goes : Type 0
Goes = Party → Party → ℤ → Bool

abbrev pub there : Option Demand → Bool
there None = false
there (Some d) = true

-- a number of the task, 0 where there is none
abbrev pub number : (Demand → ℕ) → Option Demand → ℕ
number f None = 0
number f (Some d) = f d

-- the task of slot k as a party to the order
abbrev pub party_at : ℕ → Option Demand → Party
party_at k o = record { slot = k; period = number (λ d. d.period) o; deadline = number (λ d. d.deadline) o }

-- the numbers of the plan: a task's work is its greatest total W, and its weight is (m - 1) L + W
abbrev pub numbers_of : Goes → Caps → Plan → List ℕ → Numbers
numbers_of goes most p R =
    record {
      cores = p.cores;
      slots = 16;
      holds = λ k. there (held p k);
      party = λ k. party_at k (held p k);
      bound = bound R;
      work = λ k. number (λ d. d.total) (held p k);
      weight = λ k. number (λ d. (p.cores - 1) * d.longest + d.total) (held p k);
      goes = goes;
      most = most;
    }

-- the task of slot k is `tasks k`, which counts only where the plan holds a demand
abbrev pub system_of : Goes → Caps → Plan → List ℕ → (ℕ → Table) → System
system_of goes most p R tasks =
    record { plan = numbers_of goes most p R; Outcome = Outcome; jobs = λ k. graph_jobs (nodes_of (tasks k)) (arcs_of (tasks k)) }
