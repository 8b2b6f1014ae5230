-- The layout of what stands next in a table: `rest` is what is left after the records counted in `s`. Assumes nothing.
use Rattle.std.specs.Prelude.{◌≡◌, ℕ, ◌+◌, ◌*◌, ◌<◌, ◌≤◌, ◌≢◌, List, [], length, slice_index, Ok, Err, Result}
use Rattle.table.specs.declared.records.Kind.{Kind}
use Rattle.table.specs.declared.records.Kind.TheVariants.{OfTask, OfNode, OfArc}
use Rattle.table.specs.declared.reader.Seen.{Seen}
use Rattle.table.specs.declared.fault.LayoutFault.{LayoutFault}
use Rattle.table.specs.declared.fault.LayoutFault.TheVariants.{Missing, HeaderCutOff, UnknownKind, WrongLength, OutOfTurn, TooMany, RecordCutOff}
use Rattle.table.specs.Format.{number, size}
use Rattle.table.specs.Run.{InTurn, Room}

-- the number in the two bytes at a place
abbrev pub told : List ℕ → ℕ → ℕ
told bytes at = slice_index bytes at + 256 * slice_index bytes (at + 1)

-- the kind that a number names, or the fault that it names none
abbrev pub KindTold : ℕ → Result Kind LayoutFault → Type 0
KindTold n (Ok k) = n ≡ number k
KindTold n (Err f) = (f ≡ UnknownKind n) × ((k : Kind) → n ≢ number k)

-- a whole header stands there, and names this kind
pub record Named (rest : List ℕ) (k : Kind) : Type 0 where
  pub header : 4 ≤ length rest
  pub names : told rest 2 ≡ number k

-- and tells the length of this kind
pub record Measured (rest : List ℕ) (k : Kind) : Type 0 where
  pub named : Named rest k
  pub length_told : told rest 0 ≡ size k

-- and a record of this kind may come there
pub record Allowed (s : Seen) (rest : List ℕ) (k : Kind) : Type 0 where
  pub measured : Measured rest k
  pub in_turn : InTurn s k

-- and there is room for one
pub record Roomy (s : Seen) (rest : List ℕ) (k : Kind) : Type 0 where
  pub allowed : Allowed s rest k
  pub room : Room s k

-- and the whole record stands there: its layout is right
pub record Laid (s : Seen) (rest : List ℕ) (k : Kind) : Type 0 where
  pub roomy : Roomy s rest k
  pub whole : size k ≤ length rest

-- the records that a table must still have
abbrev pub Owed : Seen → Kind → Type 0
Owed s OfTask = s.tasks ≡ 0
Owed s OfNode = (1 ≤ s.tasks) × (s.nodes ≡ 0)
Owed s OfArc = ⊥

-- The faults in layout. Each tells the first thing that is wrong, so no two hold at once
abbrev pub Faulty : Seen → List ℕ → LayoutFault → Type 0
Faulty s rest (Missing k) = (rest ≡ []) × Owed s k
Faulty s rest (HeaderCutOff left) = (left ≡ length rest) × (1 ≤ left) × (left ≤ 3)
Faulty s rest (UnknownKind n) = (4 ≤ length rest) × (told rest 2 ≡ n) × ((k : Kind) → n ≢ number k)
Faulty s rest (WrongLength k n) = Named rest k × (told rest 0 ≡ n) × (n ≢ size k)
Faulty s rest (OutOfTurn k) = Measured rest k × (InTurn s k → ⊥)
Faulty s rest (TooMany k) = Allowed s rest k × (Room s k → ⊥)
Faulty s rest (RecordCutOff k left) = Roomy s rest k × (left ≡ length rest) × (left < size k)
