-- A job's end can be tested.
use Rattle.std.proofs.Common.{ℕ, List, length, refl}
use Rattle.table.specs.declared.records.Arc.{Arc}
use Rattle.table.specs.declared.records.Node.{Node}
use Rattle.table.specs.declared.records.Region.TheVariants.{Top}
use Rattle.task.specs.Graph.{InRegion, Last}
use Rattle.task.proofs.Computed.{Test, t_like, t_and, t_some, yes_test, no_test}
use Rattle.task.proofs.Judged.{t_in_region, t_last}
use Rattle.jobs.specs.declared.node_state.NodeState.{NodeState}
use Rattle.jobs.specs.declared.node_state.NodeState.TheVariants.{Untouched, Running, Ended}
use Rattle.jobs.specs.Job.{state, IsEnded, HasEnded, JobEnded}
use Rattle.jobs.proofs.Entering.{untouched_not_ended, running_not_ended}

abbrev pub t_node_ended : (s : NodeState) → Test (IsEnded s)
t_node_ended Untouched = no_test (λ e. untouched_not_ended e.0 e.1)
t_node_ended (Running t) = no_test (λ e. running_not_ended t e.0 e.1)
t_node_ended (Ended b) = yes_test (b, refl)

-- the node v ends the last unit of the top region, and has ended
abbrev pub EndsJob : List Node → List Arc → List NodeState → ℕ → Type 0
EndsJob ns arcs job v = InRegion ns Top v × (Last ns arcs v × HasEnded job v)

abbrev pub t_job_ended : (ns : List Node) (arcs : List Arc) (job : List NodeState) → Test (JobEnded ns arcs job)
t_job_ended ns arcs job =
    t_like (λ s. record { last_node = s.0; at_top = s.2.0; is_last = s.2.1.0; ended = s.2.1.1 })
    (λ e. (e.last_node, e.at_top.is_node, (e.at_top, (e.is_last, e.ended))))
    (t_some (length ns) (EndsJob ns arcs job) (λ v. t_and (t_in_region ns Top v) (t_and (t_last ns arcs v) (t_node_ended (state job v)))))
