-- What the text of a plan file says, or the first thing that is wrong with it. Assumes nothing.
use Rattle.std.specs.Prelude.{◌≡◌, ℕ, ◌+◌, ◌<◌, ◌⊎◌, List, [], ◌∷◌, length, Some, None, Ok, Err, vec_items, codes, Result, ◌≢◌}
use Rattle.std.specs.Str.Lines.{IsFirstLine}
use Rattle.plans.specs.declared.plan.Flaw.{Flaw}
use Rattle.plans.specs.declared.plan.Flaw.TheVariants.{Expected, SlotTaken, Missing, NoMemory}
use Rattle.plans.specs.declared.plan.PlanText.{PlanText}
use Rattle.plans.specs.Entries.{Placed, cores_in, order_in, last_said, entries, told_entries, HasSlot, OpenTask, Fitting}
use Rattle.plans.specs.Lines.{LinesTo, Stated, Worded}
use Rattle.plans.specs.Numerals.{Counts}
use Rattle.plans.specs.Settings.{setting_line}
use Rattle.plans.specs.Statements.{Word, Said, cores, order, task, node, arc, Makes}

-- the text up to the rest: its lines, and statements that may stand one behind another
pub record ReadTo (text rest : List ℕ) (number : ℕ) (ps : List Placed) : Type 0 where
  pub lines : List (List ℕ)
  pub lines_are : LinesTo text lines rest
  pub numbered : number ≡ length lines
  pub stated : Stated 1 lines ps
  pub fitting : Fitting ps

-- the plan that statements make
pub record PlanOf (ps : List Placed) (plan : PlanText) : Type 0 where
  pub cores_are : last_said cores_in ps ≡ Some plan.cores
  pub order_is : last_said order_in ps ≡ Some plan.order
  pub entries_are : told_entries (vec_items plan.entries) ≡ entries ps

-- the plan that a whole text says
pub record Says (text : List ℕ) (plan : PlanText) : Type 0 where
  pub statements : List Placed
  pub number : ℕ
  pub read : ReadTo text [] number statements
  pub plan_of : PlanOf statements plan

-- a record of a task's table
abbrev pub OfTable : Said → Type 0
OfTable (cores n) = ⊥
OfTable (order o) = ⊥
OfTable (task name slot t) = ⊥
OfTable (node n) = Unit {0}
OfTable (arc a) = Unit {0}

-- the words begin a task in this slot, whatever follows
pub record NamesSlot (words : List Word) (slot : ℕ) : Type 0 where
  pub name : Word
  pub number : Word
  pub rest : List Word
  pub words_are : words ≡ codes "task" ∷ name ∷ codes "slot" ∷ number ∷ rest
  pub slot_said : Counts 15 number slot

-- a task whose slot is taken
abbrev pub TakesSlot : ℕ → List Placed → List Word → Type 0
TakesSlot slot ps words = NamesSlot words slot × HasSlot slot (entries ps)

-- some words that make no statement, nor begin a task whose slot is taken; or a node or an arc, and no task is open
abbrev pub Unexpected : List Placed → List Word → Type 0
Unexpected ps words =
    ((words ≢ []) × ((s : Said) → Makes words s → ⊥) × ((slot : ℕ) → TakesSlot slot ps words → ⊥))
    ⊎ ((s : Said) × Makes words s × OfTable s × (OpenTask ps → ⊥))

-- all is well before the line of this number, and its words are wrong
pub record WrongAt (text : List ℕ) (number : ℕ) (Wrong : List Placed → List Word → Type 0) : Type 0 where
  pub statements : List Placed
  pub rest : List ℕ
  pub before : ℕ
  pub read : ReadTo text rest before statements
  pub is_next : number ≡ before + 1
  pub line : List ℕ
  pub more : List ℕ
  pub some_line : 0 < length rest
  pub line_is : IsFirstLine rest line more
  pub words : List Word
  pub words_are : Worded line words
  pub wrong : Wrong statements words

-- the statements never say it
abbrev pub LacksLine : List Placed → Word → Type 0
LacksLine ps what =
    ((what ≡ codes "cores NUMBER") × (last_said cores_in ps ≡ None))
    ⊎ ((what ≡ codes "order fixed") × ((n : ℕ) × (last_said cores_in ps ≡ Some n)) × (last_said order_in ps ≡ None))

-- all lines are well, and one thing is never said
pub record Lacking (text : List ℕ) (what : Word) : Type 0 where
  pub statements : List Placed
  pub number : ℕ
  pub read : ReadTo text [] number statements
  pub lacks : LacksLine statements what

-- the answer for a text; where memory runs out nothing is said
abbrev pub Parsed : List ℕ → Result PlanText Flaw → Type 0
Parsed text (Ok plan) = Says text plan
Parsed text (Err (Expected line what)) = WrongAt text line Unexpected
Parsed text (Err (SlotTaken line slot)) = WrongAt text line (TakesSlot slot)
Parsed text (Err (Missing what)) = Lacking text (setting_line what)
Parsed text (Err NoMemory) = Unit {0}

-- the same plan, its names and tables as bytes
pub record SamePlan (p q : PlanText) : Type 0 where
  pub cores_same : p.cores ≡ q.cores
  pub order_same : p.order ≡ q.order
  pub entries_same : told_entries (vec_items p.entries) ≡ told_entries (vec_items q.entries)

-- a text says one plan at most
abbrev pub OnePlan : Type 0
OnePlan = (text : List ℕ) (p q : PlanText) → Says text p → Says text q → SamePlan p q

-- a text that says a plan is told no flaw, unless memory runs out
abbrev pub NoFlaw : Type 0
NoFlaw = (text : List ℕ) (p : PlanText) (flaw : Flaw) → Says text p → Parsed text (Err flaw) → flaw ≡ NoMemory
