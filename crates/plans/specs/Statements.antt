-- The statements of a plan, and the words that make them. A word is its bytes. Assumes nothing.
use Rattle.std.specs.Prelude.{◌≡◌, ℕ, List, [], ◌∷◌, map, Some, None, Ok, Err, codes, Option, Result}
use Rattle.std.specs.Borrow.{Bor}
use Rattle.table.specs.declared.records.Arc.{Arc}
use Rattle.table.specs.declared.records.Node.{Node}
use Rattle.table.specs.declared.records.Region.{Region}
use Rattle.table.specs.declared.records.Region.TheVariants.{Top, Branch}
use Rattle.table.specs.declared.records.Role.{Role}
use Rattle.table.specs.declared.records.Role.TheVariants.{Plain, Opening, Closing}
use Rattle.table.specs.declared.records.Timing.{Timing}
use Rattle.plans.specs.declared.plan.Precedence.{Precedence}
use Rattle.plans.specs.declared.plan.Precedence.TheVariants.{Fixed, Open}
use Rattle.plans.specs.declared.statement.Statement.{Statement}
use Rattle.plans.specs.declared.statement.Statement.TheVariants.{Cores, Order, Task, OfNode, OfArc}
use Rattle.plans.specs.declared.statement.Origin.{Origin}
use Rattle.plans.specs.declared.statement.Origin.TheVariants.{Timed, Filed}
use Rattle.plans.specs.declared.wanted.Wanted.{Wanted}
use Rattle.plans.specs.Numerals.{Counts}

abbrev pub Word : Type 0
Word = List ℕ

-- where the table of a task is: in the records that follow, or in a file
pub data ToldTable : Type 0 where
  timed : Timing → ToldTable
  filed : (file : Word) → ToldTable

-- a statement, its names as bytes
pub data Said : Type 0 where
  cores : ℕ → Said
  order : Precedence → Said
  task : (name : Word) (slot : ℕ) → ToldTable → Said
  node : Node → Said
  arc : Arc → Said

abbrev pub told_table : Origin → ToldTable
told_table (Timed t) = timed t
told_table (Filed file) = filed file.now

abbrev pub meaning : Statement → Said
meaning (Cores n) = cores n
meaning (Order o) = order o
meaning (Task name slot origin) = task name.now slot (told_table origin)
meaning (OfNode n) = node n
meaning (OfArc a) = arc a

-- the greatest number that a time may be written as
abbrev pub greatest_time : ℕ
greatest_time = 4294967295

abbrev pub order_word : Precedence → Word
order_word Fixed = codes "fixed"
order_word Open = codes "open"

abbrev pub role_word : Role → Word
role_word Plain = codes "plain"
role_word Opening = codes "opening"
role_word (Closing m) = codes "closing"

-- in HOME branch NUMBER
abbrev pub BranchSaid : (at home of branch : Word) → Region → Type 0
BranchSaid at home of branch Top = ⊥
BranchSaid at home of branch (Branch h b) = (at ≡ codes "in") × (of ≡ codes "branch") × Counts 63 home h × Counts 255 branch b

-- nothing is said of the top
abbrev pub RegionSaid : List Word → Region → Type 0
RegionSaid words Top = words ≡ []
RegionSaid words (Branch h b) =
    (at : Word) × (home : Word) × (of : Word) × (branch : Word) × (words ≡ at ∷ home ∷ of ∷ branch ∷ []) × BranchSaid at home of branch (Branch h b)

-- behind the time of a node stands the opening that a closing closes, and where the node lies
abbrev pub PlaceSaid : List Word → Role → Region → Type 0
PlaceSaid words Plain r = RegionSaid words r
PlaceSaid words Opening r = RegionSaid words r
PlaceSaid words (Closing m) r = (number : Word) × (rest : List Word) × (words ≡ codes "of" ∷ number ∷ rest) × Counts 63 number m × RegionSaid rest r

-- a node of this role and time, and the words say where it lies
pub record Sits (role : Role) (time : ℕ) (words : List Word) (n : Node) : Type 0 where
  pub role_is : n.role ≡ role
  pub time_is : n.time ≡ time
  pub region_said : RegionSaid words n.region

-- a closing of this time, and the words say what it closes and where it lies
pub record Closes (time : ℕ) (words : List Word) (n : Node) : Type 0 where
  pub mate : ℕ
  pub role_is : n.role ≡ Closing mate
  pub time_is : n.time ≡ time
  pub place_said : PlaceSaid words (Closing mate) n.region

-- the role of a node, its time, and the rest
pub record NodeSaid (words : List Word) (n : Node) : Type 0 where
  pub time : Word
  pub rest : List Word
  pub words_are : words ≡ role_word n.role ∷ time ∷ rest
  pub time_said : Counts greatest_time time n.time
  pub place_said : PlaceSaid rest n.role n.region

-- period NUMBER deadline NUMBER
pub record TimesSaid (at period by deadline : Word) (t : Timing) : Type 0 where
  pub first : at ≡ codes "period"
  pub second : by ≡ codes "deadline"
  pub period_said : Counts greatest_time period t.period
  pub deadline_said : Counts greatest_time deadline t.deadline

-- file NAME
pub record FileSaid (at name : Word) (file : Word) : Type 0 where
  pub first : at ≡ codes "file"
  pub name_is : file ≡ name

-- a task's period and deadline, or its file
abbrev pub TableSaid : List Word → ToldTable → Type 0
TableSaid words (timed t) =
    (at : Word) × (period : Word) × (by : Word) × (deadline : Word) × (words ≡ at ∷ period ∷ by ∷ deadline ∷ []) × TimesSaid at period by deadline t
TableSaid words (filed file) = (at : Word) × (name : Word) × (words ≡ at ∷ name ∷ []) × FileSaid at name file

-- a task's name, its slot, and the rest
pub record TaskSaid (words : List Word) (name : Word) (slot : ℕ) (t : ToldTable) : Type 0 where
  pub number : Word
  pub rest : List Word
  pub words_are : words ≡ name ∷ codes "slot" ∷ number ∷ rest
  pub slot_said : Counts 15 number slot
  pub table_said : TableSaid rest t

-- the words behind the first make the statement
abbrev pub GoesOn : List Word → Said → Type 0
GoesOn words (cores n) = (number : Word) × (words ≡ number ∷ []) × Counts 255 number n
GoesOn words (order o) = words ≡ order_word o ∷ []
GoesOn words (task name slot t) = TaskSaid words name slot t
GoesOn words (node n) = NodeSaid words n
GoesOn words (arc a) = (from : Word) × (to : Word) × (words ≡ from ∷ to ∷ []) × Counts 255 from a.from × Counts 255 to a.to

-- the first word of a statement
abbrev pub keyword : Said → Word
keyword (cores n) = codes "cores"
keyword (order o) = codes "order"
keyword (task name slot t) = codes "task"
keyword (node n) = codes "node"
keyword (arc a) = codes "arc"

-- the words make the statement
abbrev pub Makes : List Word → Said → Type 0
Makes [] s = ⊥
Makes (first ∷ words) s = (first ≡ keyword s) × GoesOn words s

-- words make one statement at most
abbrev pub OneStatement : Type 0
OneStatement = (words : List Word) (s t : Said) → Makes words s → Makes words t → s ≡ t

abbrev pub texts : List (Bor (List ℕ)) → List Word
texts words = map (λ w. w.now) words

-- the answer is what the words say; or what was expected there, and they say nothing of the kind
abbrev pub Heard : {A B : Type 0} → (A → B) → (B → Type 0) → Result A Wanted → Type 0
Heard view Says (Ok a) = Says (view a)
Heard {A} {B} view Says (Err what) = (b : B) → Says b → ⊥

-- the answer is what the words say, or nothing where they say nothing of the kind
abbrev pub Found : {B : Type 0} → (B → Type 0) → Option B → Type 0
Found Says (Some b) = Says b
Found {B} Says None = (b : B) → Says b → ⊥

-- the answer is the statement that the words make
abbrev pub ReadAs : List Word → Result Statement Wanted → Type 0
ReadAs words r = Heard meaning (Makes words) r
