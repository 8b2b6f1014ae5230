-- Structs with an invariant are equal where their fields are: an invariant is a proposition.
use Rattle.std.proofs.Common.{◌≡◌, ℕ, ◌≤◌, length}
use mathlib.Core.HLevel.{is_prop→PathP}
use mathlib.Core.Logic.{∥∥₁_prop}
use native.Mathlib.Bridge.{le_prop}
use native.Mathlib.Nat.{ℕ_set}
use Rattle.task.specs.declared.held.Task.{Task}
use Rattle.task.specs.Held.{LawfulTask}
use Rattle.bounds.specs.declared.plan.Demand.{Demand}
use Rattle.bounds.specs.declared.plan.Plan.{Plan}
use Rattle.controller.specs.declared.tables.Tables.{Tables}

pub task_equal : (a b : Task) → a.table ≡ b.table → a ≡ b
task_equal a b p =
    λ i. record { table = p i; lawful = is_prop→PathP (λ j. ∥ LawfulTask (p j) ∥₁) (λ j. ∥∥₁_prop) a.lawful b.lawful i }

three_prop : (a b c d e f : ℕ) → IsProp ((a ≤ b) × (c ≤ d) × (e ≤ f))
three_prop a b c d e f x y = λ i. (le_prop x.0 y.0 i, le_prop x.1 y.1 i, le_prop x.2 y.2 i)

two_prop : (a b c d : ℕ) → IsProp ((a ≤ b) × (c ≤ d))
two_prop a b c d x y = λ i. (le_prop x.0 y.0 i, le_prop x.1 y.1 i)

lengths_prop : (a b c d e f : ℕ) → IsProp ((a ≡ b) × (c ≡ d) × (e ≡ f))
lengths_prop a b c d e f x y = λ i. (ℕ_set a b x.0 y.0 i, ℕ_set c d x.1 y.1 i, ℕ_set e f x.2 y.2 i)

pub demand_equal : (a b : Demand) → a.period ≡ b.period → a.deadline ≡ b.deadline → a.longest ≡ b.longest → a.total ≡ b.total → a ≡ b
demand_equal a b p d l w =
    λ i. record {
      period = p i;
      deadline = d i;
      longest = l i;
      total = w i;
      timed = is_prop→PathP (λ j. (1 ≤ d j) × (d j ≤ p j) × (p j ≤ 1000000)) (λ j. three_prop 1 (d j) (d j) (p j) (p j) 1000000) a.timed b.timed i;
      sized = is_prop→PathP (λ j. (1 ≤ l j) × (l j ≤ w j) × (w j ≤ 4194240)) (λ j. three_prop 1 (l j) (l j) (w j) (w j) 4194240) a.sized b.sized i;
    }

pub plan_equal : (a b : Plan) → a.cores ≡ b.cores → a.slots ≡ b.slots → a ≡ b
plan_equal a b c s =
    λ i. record {
      cores = c i;
      slots = s i;
      manned = is_prop→PathP (λ j. (1 ≤ c j) × (c j ≤ 16)) (λ j. two_prop 1 (c j) (c j) 16) a.manned b.manned i;
      slotted = is_prop→PathP (λ j. length (s j) ≡ 16) (λ j. ℕ_set (length (s j)) 16) a.slotted b.slotted i;
    }

pub tables_equal : (a b : Tables) → a.plan ≡ b.plan → a.board.tasks ≡ b.board.tasks → a.board.jobs ≡ b.board.jobs → a.waited ≡ b.waited → a.bounds ≡ b.bounds
    → a.tick ≡ b.tick → a ≡ b
tables_equal a b p t j w r k =
    λ i. record {
      plan = p i;
      board = record { tasks = t i; jobs = j i };
      waited = w i;
      bounds = r i;
      tick = k i;
      sized = is_prop→PathP (λ h. (length (t h) ≡ 16) × (length (j h) ≡ 16) × (length (w h) ≡ 16))
          (λ h. lengths_prop (length (t h)) 16 (length (j h)) 16 (length (w h)) 16) a.sized b.sized i;
    }
