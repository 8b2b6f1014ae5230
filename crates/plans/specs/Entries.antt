-- What the statements of a plan make together. Assumes nothing.
use Rattle.std.specs.Prelude.{◌≡◌, ℕ, ◌⊎◌, List, [], ◌∷◌, ◌++◌, map, Some, None, vec_items, Option}
use Rattle.std.specs.List.{flat_map}
use Rattle.table.specs.declared.records.Timing.{Timing}
use Rattle.table.specs.Format.{Record, encode}
use Rattle.table.specs.Format.{task as task_record, node as node_record, arc as arc_record}
use Rattle.plans.specs.declared.plan.Entry.{Entry}
use Rattle.plans.specs.declared.plan.Precedence.{Precedence}
use Rattle.plans.specs.declared.plan.Source.{Source}
use Rattle.plans.specs.declared.plan.Source.TheVariants.{Written, File}
use Rattle.plans.specs.Statements.{Word, ToldTable, timed, filed, Said, cores, order, task, node, arc}

-- a statement, and the number of its line
pub record Placed : Type 0 where
  pub line : ℕ
  pub said : Said

-- the table of an entry: its bytes, or the name of its file
pub data ToldSource : Type 0 where
  written : (bytes : List ℕ) → ToldSource
  file : (name : Word) → ToldSource

-- an entry of a plan, its names as bytes
pub record ToldEntry : Type 0 where
  pub name : Word
  pub slot : ℕ
  pub line : ℕ
  pub source : ToldSource

abbrev pub told_source : Source → ToldSource
told_source (Written bytes) = written (vec_items bytes)
told_source (File name) = file name.now

abbrev pub told_entry : Entry → ToldEntry
told_entry e = record { name = e.name.now; slot = e.slot; line = e.line; source = told_source e.source }

abbrev pub told_entries : List Entry → List ToldEntry
told_entries es = map told_entry es

-- what a statement says of each matter
abbrev pub cores_in : Said → Option ℕ
cores_in (cores n) = Some n
cores_in (order o) = None
cores_in (task name slot t) = None
cores_in (node n) = None
cores_in (arc a) = None

abbrev pub order_in : Said → Option Precedence
order_in (cores n) = None
order_in (order o) = Some o
order_in (task name slot t) = None
order_in (node n) = None
order_in (arc a) = None

abbrev pub table_in : Said → Option ToldTable
table_in (cores n) = None
table_in (order o) = None
table_in (task name slot t) = Some t
table_in (node n) = None
table_in (arc a) = None

abbrev pub or_else : {A : Type 0} → Option A → Option A → Option A
or_else (Some a) o = Some a
or_else None o = o

-- what is said of a matter last
unfoldable pub last_said : {A : Type 0} → (Said → Option A) → List Placed → Option A
last_said says [] = None
last_said says (p ∷ ps) = or_else (last_said says ps) (says p.said)

-- the records of the nodes and arcs up to the next task, where these come behind the statement
abbrev pub records_on : Said → List Record → List Record
records_on (cores n) behind = behind
records_on (order o) behind = behind
records_on (task name slot t) behind = []
records_on (node n) behind = node_record n ∷ behind
records_on (arc a) behind = arc_record a ∷ behind

unfoldable pub records_ahead : List Placed → List Record
records_ahead [] = []
records_ahead (p ∷ ps) = records_on p.said (records_ahead ps)

-- a table is written as its task record and the records that follow
abbrev pub source_of : ToldTable → List Record → ToldSource
source_of (timed t) rs = written (encode (task_record t) ++ flat_map encode rs)
source_of (filed name) rs = file name

-- the entry that a statement makes, if it is a task, before these others
abbrev pub entries_on : ℕ → Said → List Record → List ToldEntry → List ToldEntry
entries_on line (cores n) rs others = others
entries_on line (order o) rs others = others
entries_on line (task name slot t) rs others = record { name = name; slot = slot; line = line; source = source_of t rs } ∷ others
entries_on line (node n) rs others = others
entries_on line (arc a) rs others = others

-- an entry for each task, in their sequence
unfoldable pub entries : List Placed → List ToldEntry
entries [] = []
entries (p ∷ ps) = entries_on p.line p.said (records_ahead ps) (entries ps)

-- an entry has the slot
abbrev pub HasSlot : ℕ → List ToldEntry → Type 0
HasSlot slot [] = ⊥
HasSlot slot (e ∷ es) = (e.slot ≡ slot) ⊎ HasSlot slot es

-- the latest task is one whose nodes and arcs may follow
abbrev pub OpenTask : List Placed → Type 0
OpenTask ps = (t : Timing) × (last_said table_in ps ≡ Some (timed t))

-- the statement may stand behind these
abbrev pub Fits : List Placed → Said → Type 0
Fits ps (cores n) = Unit {0}
Fits ps (order o) = Unit {0}
Fits ps (task name slot t) = HasSlot slot (entries ps) → ⊥
Fits ps (node n) = OpenTask ps
Fits ps (arc a) = OpenTask ps

-- each statement may stand behind those before it
abbrev pub FitBehind : List Placed → List Placed → Type 0
FitBehind before [] = Unit {0}
FitBehind before (p ∷ ps) = Fits before p.said × FitBehind (before ++ p ∷ []) ps

abbrev pub Fitting : List Placed → Type 0
Fitting ps = FitBehind [] ps
