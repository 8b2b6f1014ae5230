-- What is kept of a plan while its statements come.
use Rattle.std.specs.Prelude.{◌≡◌, ℕ, ◌⊎◌, List, [], ◌∷◌, ◌++◌, Ok, Err, vec_items, Result}
use Rattle.table.specs.Format.{encode}
use Rattle.table.specs.Format.{node as node_record, arc as arc_record}
use Rattle.plans.specs.declared.draft.Draft.{Draft}
use Rattle.plans.specs.declared.plan.Flaw.{Flaw}
use Rattle.plans.specs.declared.plan.Flaw.TheVariants.{Expected, SlotTaken, Missing, NoMemory}
use Rattle.plans.specs.Entries.{Placed, cores_in, order_in, last_said, entries, told_entries, HasSlot, OpenTask, Fits}
use Rattle.plans.specs.Lines.{Worded}
use Rattle.plans.specs.declared.plan.PlanText.{PlanText}
use Rattle.plans.specs.Parsed.{OfTable, Unexpected, TakesSlot, PlanOf, LacksLine}
use Rattle.plans.specs.Settings.{setting_line}
use Rattle.plans.specs.Statements.{Word, ToldTable, Said, cores, order, task, node, arc, Makes}

-- the draft of these statements
pub record Drafted (d : Draft) (ps : List Placed) : Type 0 where
  pub cores_kept : d.cores ≡ last_said cores_in ps
  pub order_kept : d.order ≡ last_said order_in ps
  pub entries_kept : told_entries (vec_items d.entries) ≡ entries ps

-- the bytes are the record of the statement, which is one of a node or of an arc
abbrev pub RecordOf : Said → List ℕ → Type 0
RecordOf (cores n) bytes = ⊥
RecordOf (order o) bytes = ⊥
RecordOf (task name slot t) bytes = ⊥
RecordOf (node n) bytes = bytes ≡ encode (node_record n)
RecordOf (arc a) bytes = bytes ≡ encode (arc_record a)

-- the draft with one statement more, or why it may not stand there
abbrev pub Advances : List Placed → Said → ℕ → Draft → Result Unit Flaw → Type 0
Advances ps s line d (Ok x) = Fits ps s × Drafted d (ps ++ record { line = line; said = s } ∷ [])
Advances ps s line d (Err (Expected at what)) = (at ≡ line) × OfTable s × (OpenTask ps → ⊥)
Advances ps s line d (Err (SlotTaken at slot)) = (at ≡ line) × ((name : Word) × (t : ToldTable) × (s ≡ task name slot t)) × HasSlot slot (entries ps)
Advances ps s line d (Err (Missing what)) = ⊥
Advances ps s line d (Err NoMemory) = Unit {0}

-- the draft with one line more, or why the line is wrong
abbrev pub ReadsLine : List Placed → List ℕ → ℕ → Draft → Result Unit Flaw → Type 0
ReadsLine ps line number d (Ok x) =
    (Worded line [] × Drafted d ps)
    ⊎ ((words : List Word) × (s : Said) × Worded line words × Makes words s × Fits ps s × Drafted d (ps ++ record { line = number; said = s } ∷ []))
ReadsLine ps line number d (Err (Expected at what)) = (at ≡ number) × ((words : List Word) × Worded line words × Unexpected ps words)
ReadsLine ps line number d (Err (SlotTaken at slot)) = (at ≡ number) × ((words : List Word) × Worded line words × TakesSlot slot ps words)
ReadsLine ps line number d (Err (Missing what)) = ⊥
ReadsLine ps line number d (Err NoMemory) = Unit {0}

-- why words are wrong behind these statements
abbrev pub Blamed : List Placed → List Word → ℕ → Flaw → Type 0
Blamed ps words line (Expected at what) = (at ≡ line) × Unexpected ps words
Blamed ps words line (SlotTaken at slot) = (at ≡ line) × TakesSlot slot ps words
Blamed ps words line (Missing what) = ⊥
Blamed ps words line NoMemory = ⊥

-- the plan of the statements, or what they never say
abbrev pub Finishes : List Placed → Result PlanText Flaw → Type 0
Finishes ps (Ok plan) = PlanOf ps plan
Finishes ps (Err (Expected at what)) = ⊥
Finishes ps (Err (SlotTaken at slot)) = ⊥
Finishes ps (Err (Missing what)) = LacksLine ps (setting_line what)
Finishes ps (Err NoMemory) = Unit {0}
