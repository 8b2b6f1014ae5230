-- Two tasks on two cores, and a run in which the job of each ends exactly at its bound. Assumes nothing.
use Rattle.std.specs.Prelude.{◌≡◌, ℕ, ◌+◌, true, false, cond, ◌&&◌, [], ◌∷◌, ◌==◌, nat_le, nat_lt}
use Rattle.order.specs.Orders.{smaller_slot, slot_cap}
use Rattle.bounds.specs.Equation.{sum_to}
use Rattle.timing.specs.Counts.{all_below}
use Rattle.timing.specs.Jobs.{turns_of}
use Rattle.timing.specs.System.{Plan, Bounded, System, SoundJobs}
use Rattle.timing.specs.Run.{idle, State, start, Run}
use Rattle.timing.specs.Statements.{Responds, TestedJobs, system_of}

-- n nodes side by side, each of c ticks; the state is what each has run, and an outcome counts the ticks that the node has run with this one
abbrev pub lanes : ℕ → ℕ → TestedJobs (ℕ → ℕ) ℕ
lanes n c =
    record {
      fresh = λ v. 0;
      advance = λ j ts v. j v + turns_of v ts;
      ended = λ j. all_below n (λ v. nat_le c (j v));
      sound = λ j. all_below n (λ v. nat_le (j v) c);
      ready = λ j w. nat_lt w n && nat_lt (j w) c;
      allows = λ j t. (t.outcome == j t.node + 1);
      leads = λ j v w. false;
      chain = λ j w a. (a == j w);
      own = λ j. sum_to n j;
    }

-- slot 0: two nodes of one tick, with bound 1; slot 1: one node of two ticks, with bound 3; the smaller slot goes ahead
abbrev pub two_tasks : Plan
two_tasks =
    record {
      cores = 2;
      slots = 2;
      holds = λ k. true;
      party = λ k. record { slot = k; period = 10; deadline = 10 };
      bound = λ k. cond (k == 0) 1 3;
      work = λ k. 2;
      weight = λ k. cond (k == 0) 3 4;
      goes = smaller_slot;
      most = slot_cap;
    }

abbrev pub example : System
example = system_of two_tasks (λ k. cond (k == 0) (lanes 2 1) (lanes 1 2))

-- what the theorem assumes, and the theorem itself
abbrev pub ExampleBounded : Type 0
ExampleBounded = Bounded two_tasks × SoundJobs example × Responds example

-- Both jobs are released at 0. The first has both cores in tick 0, the second one core in ticks 1 and 2.
abbrev pub ExampleRuns : Type 0
ExampleRuns =
    (s : State example) × Run example (start example) s
    × (s.slot 0 ≡ idle (record { released = 0; spent = 0 ∷ 0 ∷ []; ended = two_tasks.bound 0 } ∷ []))
    × (s.slot 1 ≡ idle (record { released = 0; spent = 2 ∷ 1 ∷ []; ended = two_tasks.bound 1 } ∷ []))
