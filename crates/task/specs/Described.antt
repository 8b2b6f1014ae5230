-- What a table describes: a lawful task, or why none. Assumes nothing.
use Rattle.std.specs.Prelude.{◌≡◌, ℕ, List, Ok, Err, Result}
use Rattle.table.specs.declared.records.Table.{Table}
use Rattle.table.specs.Numbers.{fault_number, fault_added}
use Rattle.table.specs.Reading.{Reads}
use Rattle.table.specs.Whole.{Encodes}
use Rattle.task.specs.declared.held.Refusal.{Refusal}
use Rattle.task.specs.declared.held.Refusal.TheVariants.{Unsound, Misshapen}
use Rattle.task.specs.declared.held.Task.{Task}
use Rattle.task.specs.declared.rules.Rule.{Rule}
use Rattle.task.specs.Held.{nodes_of, arcs_of}
use Rattle.task.specs.Rules.{rule_number, BrokenAt}
use Rattle.task.specs.Shape.{Shaped}

-- the bytes are those of a table in range whose graph breaks this rule first, and there first
pub record Breaks (bytes : List ℕ) (rule : Rule) (at : ℕ) : Type 0 where
  pub table : Table
  pub encodes : Encodes bytes table
  pub broken : BrokenAt (nodes_of table) (arcs_of table) rule at

-- the bytes are those of this table, which is in range and has the lawful shape
pub record Taken (bytes : List ℕ) (table : Table) : Type 0 where
  pub encodes : Encodes bytes table
  pub shaped : Shaped (nodes_of table) (arcs_of table)

abbrev pub Describes : List ℕ → Result Table Refusal → Type 0
Describes bytes (Ok table) = Taken bytes table
Describes bytes (Err (Unsound fault)) = Reads bytes (Err fault)
Describes bytes (Err (Misshapen broken)) = Breaks bytes broken.rule broken.at

-- the answer is right, and no other is
pub record Told (bytes : List ℕ) (answer : Result Table Refusal) : Type 0 where
  pub right : Describes bytes answer
  pub only : (other : Result Table Refusal) → Describes bytes other → other ≡ answer

-- an answer by the records of its task
abbrev pub records : Result Task Refusal → Result Table Refusal
records (Ok task) = Ok task.table
records (Err refusal) = Err refusal

-- the number of a refusal, and what it adds: the offset of a record, or the number of a rule
abbrev pub refusal_number : Refusal → ℕ
refusal_number (Unsound fault) = fault_number fault
refusal_number (Misshapen broken) = 7

abbrev pub refusal_added : Refusal → ℕ
refusal_added (Unsound fault) = fault_added fault
refusal_added (Misshapen broken) = rule_number broken.rule
