-- Tasks on m cores with an order and bounds, and when the bounds are large enough. Assumes nothing.
use Rattle.std.specs.Prelude.{◌≡◌, ℕ, ◌+◌, ◌*◌, ◌<◌, ◌≤◌, Bool, true, cond, ℤ, Option}
use Rattle.order.specs.declared.Party.{Party}
use Rattle.order.specs.Laws.{Lawful, Orderly}
use Rattle.bounds.specs.Equation.{sum_to, apart_from, work_ahead_of}
use Rattle.timing.specs.Jobs.{Jobs, JobLaws}

-- The numbers of a system: its cores, its slots, which of them hold a task, each task's party to the order, its bound, work and weight;
-- and the order: who goes ahead of whom, and how many at most.
pub record Plan : Type 0 where
  pub cores : ℕ
  pub slots : ℕ
  pub holds : ℕ → Bool
  pub party : ℕ → Party
  pub bound : ℕ → ℕ
  pub work : ℕ → ℕ
  pub weight : ℕ → ℕ
  pub goes : Party → Party → ℤ → Bool
  pub most : Party → Party → ℕ → Option ℕ

-- the slot holds a task
abbrev pub Held : Plan → ℕ → Type 0
Held p k = (k < p.slots) × (p.holds k ≡ true)

-- what the task of slot i uses ahead of one job of slot k
abbrev pub share : Plan → ℕ → ℕ → ℕ
share p k i =
    cond (p.holds i)
    (work_ahead_of p.cores (p.work i) (p.party i).period (p.most (p.party i) (p.party k) (p.bound i)) (p.bound k + p.bound i)) 0

-- The tasks are lawful, the order keeps its laws, and in the time that a bound leaves, one core-tick more could be used than is ever needed.
pub record Bounded (p : Plan) : Type 0 where
  pub some_core : 1 ≤ p.cores
  pub orderly : Orderly p.goes p.most
  pub lawful : (k : ℕ) → Held p k → Lawful (p.party k)
  pub in_slot : (k : ℕ) → Held p k → (p.party k).slot ≡ k
  pub some_bound : (k : ℕ) → Held p k → 1 ≤ p.bound k
  pub in_deadline : (k : ℕ) → Held p k → p.bound k ≤ (p.party k).deadline
  pub enough : (k : ℕ) → Held p k → p.weight k + sum_to p.slots (apart_from k (share p k)) < p.cores * (p.bound k + 1)

-- a plan, and what the jobs of its tasks are
pub record System : Type 1 where
  pub plan : Plan
  pub Outcome : Type 0
  pub jobs : ℕ → Jobs Outcome

-- the jobs keep the laws, at the plan's cores, work and weight
abbrev pub SoundJobs : System → Type 0
SoundJobs y = (k : ℕ) → Held y.plan k → JobLaws (y.jobs k) y.plan.cores (y.plan.work k) (y.plan.weight k)
