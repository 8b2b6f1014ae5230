-- The response-time theorem: in every run each job ends within its bound. Assumes nothing.
use Rattle.std.specs.Prelude.{◌≡◌, ℕ, ◌+◌, ◌<◌, ◌≤◌, Bool, true, ◌⊎◌, List, [], ◌∷◌}
use Rattle.std.specs.List.{AllByRecursion}
use Rattle.timing.specs.Jobs.{Jobs, Turn}
use Rattle.timing.specs.System.{Plan, Held, Bounded, System, SoundJobs}
use Rattle.timing.specs.Run.{Done, Slot, idle, busy, State, start, MayRelease, release, Run}

-- each job that has ended did so within R ticks of its release
abbrev pub OnTime : ℕ → List Done → Type 0
OnTime R past = AllByRecursion (λ d. d.ended ≤ d.released + R) past

-- and an open job is younger than R ticks
abbrev pub TimelySlot : {S : Type 0} → ℕ → ℕ → Slot S → Type 0
TimelySlot R t (idle past) = OnTime R past
TimelySlot R t (busy r spent j past) = (t < r + R) × OnTime R past

abbrev pub Timely : (y : System) → State y → Type 0
Timely y s = (k : ℕ) → Held y.plan k → TimelySlot (y.plan.bound k) s.now (s.slot k)

abbrev pub Idle : {S : Type 0} → Slot S → Type 0
Idle (idle past) = Unit {0}
Idle (busy r spent j past) = ⊥

-- when a job may be released, the one before it has ended
abbrev pub NoOverlap : (y : System) → State y → Type 0
NoOverlap y s = (k : ℕ) → MayRelease y s k → Idle (s.slot k)

-- one of the jobs that have ended was released at r, and ended within R ticks
abbrev pub EndedWithin : ℕ → ℕ → List Done → Type 0
EndedWithin R r [] = ⊥
EndedWithin R r (d ∷ past) = ((d.released ≡ r) × (d.ended ≤ r + R)) ⊎ EndedWithin R r past

abbrev pub past_of : {S : Type 0} → Slot S → List Done
past_of (idle past) = past
past_of (busy r spent j past) = past

-- a job that is released has ended, in time, in each state of a run from there on that is R ticks later or more, where R is its bound
abbrev pub Ends : (y : System) → State y → Type 0
Ends y s =
    (k : ℕ) → MayRelease y s k → (u : State y) → Run y (release y k s) u → s.now + y.plan.bound k ≤ u.now
    → EndedWithin (y.plan.bound k) s.now (past_of (u.slot k))

-- In every run each job ends within its bound, and no job is released while one of its task is open.
abbrev pub Responds : System → Type 0
Responds y = Bounded y.plan → SoundJobs y → (s : State y) → Run y (start y) s → Ends y s × Timely y s × NoOverlap y s

-- ---- the theorem, of all plans and of all jobs, where tests say what holds

-- jobs with states of the type S and outcomes of the type O
pub record TestedJobs (S O : Type 0) : Type 0 where
  pub fresh : S
  pub advance : S → List (Turn O) → S
  pub ended : S → Bool
  pub sound : S → Bool
  pub ready : S → ℕ → Bool
  pub allows : S → Turn O → Bool
  pub leads : S → ℕ → ℕ → Bool
  pub chain : S → ℕ → ℕ → Bool
  pub own : S → ℕ

abbrev pub jobs_of : {S O : Type 0} → TestedJobs S O → Jobs O
jobs_of {S = S} q =
    record {
      State = S;
      fresh = q.fresh;
      advance = q.advance;
      ended = q.ended;
      Sound = λ j. q.sound j ≡ true;
      Ready = λ j w. q.ready j w ≡ true;
      Allows = λ j t. q.allows j t ≡ true;
      Leads = λ j v w. q.leads j v w ≡ true;
      Chain = λ j w c. q.chain j w c ≡ true;
      own = q.own;
    }

abbrev pub system_of : {S O : Type 0} → Plan → (ℕ → TestedJobs S O) → System
system_of {O = O} p q = record { plan = p; Outcome = O; jobs = λ k. jobs_of (q k) }

abbrev pub AllRespond : Type 0 → Type 0 → Type 0
AllRespond S O = (p : Plan) (q : ℕ → TestedJobs S O) → Responds (system_of p q)
