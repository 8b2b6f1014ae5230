-- The jobs of a task's graph, as the timing argument sees jobs. Assumes nothing.
use Rattle.std.specs.Prelude.{◌≡◌, ℕ, ◌+◌, cond, ◌≢◌, List, [], ◌∷◌, ◌==◌}
use Rattle.table.specs.declared.records.Arc.{Arc}
use Rattle.table.specs.declared.records.Node.{Node}
use Rattle.task.specs.Graph.{Joined}
use Rattle.paths.specs.Paths.{Path, last, Each}
use Rattle.workload.specs.Measures.{PathOf}
use Rattle.jobs.specs.declared.node_state.NodeState.{NodeState}
use Rattle.jobs.specs.Job.{HasEnded, Taken, Ready, Outcome, idle, after, Allowed, released, ran_now, Reached}
use Rattle.jobs.specs.Statements.{ran_along, ran_in_all}
use Rattle.jobs.proofs.Ended.{t_job_ended}
use Rattle.timing.specs.Jobs.{Turn, Jobs}

-- how far a job is with each node, and the ticks that each node has run, which the state of an ended node does not tell
pub record JobState : Type 0 where
  pub states : List NodeState
  pub ran : ℕ → ℕ

-- what a tick with these turns brings to the node v: the outcome of its turn, the first if it has several; without one it did not run
abbrev pub outcome_in : List (Turn Outcome) → ℕ → Outcome
outcome_in [] v = idle
outcome_in (t ∷ ts) v = cond (v == t.node) t.outcome (outcome_in ts v)

-- the job after a tick with these turns
abbrev pub advance : JobState → List (Turn Outcome) → JobState
advance j ts = record { states = after (outcome_in ts) j.states; ran = λ v. j.ran v + ran_now (outcome_in ts v) }

-- the turn's outcome says that the node ran, and a tick of just this turn would be allowed
abbrev pub Allows : List Node → List Arc → JobState → Turn Outcome → Type 0
Allows ns arcs j t = (t.outcome ≢ idle) × Allowed ns arcs j.states (outcome_in (t ∷ []))

-- the node v has ended, and an arc leads from it to w
pub record LeadsTo (arcs : List Arc) (j : JobState) (v w : ℕ) : Type 0 where
  pub joined : Joined arcs v w
  pub ended : HasEnded j.states v

-- a path of taken nodes that ends in w, and whose nodes have run c ticks
pub record ChainTo (ns : List Node) (arcs : List Arc) (j : JobState) (w c : ℕ) : Type 0 where
  pub along : Path
  pub path : PathOf ns arcs along
  pub taken : Each (Taken ns j.states) along
  pub ends : last along ≡ w
  pub has_run : ran_along j.ran along ≡ c

-- `ended` is the answer of a test that decides `JobEnded`
abbrev pub graph_jobs : List Node → List Arc → Jobs Outcome
graph_jobs ns arcs =
    record {
      State = JobState;
      fresh = record { states = released 64; ran = λ v. 0 };
      advance = advance;
      ended = λ j. (t_job_ended ns arcs j.states).answer;
      Sound = λ j. Reached 64 ns arcs j.states j.ran;
      Ready = λ j w. Ready ns arcs j.states w;
      Allows = Allows ns arcs;
      Leads = LeadsTo arcs;
      Chain = ChainTo ns arcs;
      own = λ j. ran_in_all ns j.ran;
    }
