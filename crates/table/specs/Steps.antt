-- What the private functions say of one step. No public contract rests on these words. Assumes nothing.
use Rattle.std.specs.Prelude.{◌≡◌, ℕ, ◌+◌, ◌<◌, ◌≤◌, ◌≢◌, ◌⊎◌, List, length, drop, Some, None, Option, slice_set}
use Rattle.table.specs.declared.records.Table.{Table}
use Rattle.table.specs.declared.records.Kind.{Kind}
use Rattle.table.specs.declared.records.Kind.TheVariants.{OfTask, OfNode, OfArc}
use Rattle.table.specs.declared.reader.Seen.{Seen}
use Rattle.table.specs.declared.reader.Part.{Part}
use Rattle.table.specs.Run.{counted, InTurn, Room}
use Rattle.table.specs.Layout.{Laid, Faulty}
use Rattle.table.specs.declared.fault.Fault.{Fault}
use Rattle.table.specs.declared.fault.Fault.TheVariants.{Layout, Range}
use Rattle.table.specs.declared.fault.Field.TheVariants.{Role as role_field, Mate as mate_field, Home as home_field, Branch as branch_field}
use Rattle.table.specs.declared.fault.LayoutFault.{LayoutFault}
use Rattle.table.specs.declared.fault.LayoutFault.TheVariants.{UnknownKind, WrongLength, OutOfTurn, TooMany}
use Rattle.table.specs.declared.fault.Misfit.{Misfit}
use Rattle.table.specs.declared.records.Role.{Role}
use Rattle.table.specs.declared.records.Region.{Region}
use Rattle.table.specs.Fields.{MateFits, HomeFits, BranchFits}
use Rattle.table.specs.Format.{Record, task, node, arc, size, kind, number, fields, role_byte, mate_byte, home_byte, branch_byte}
use Rattle.table.specs.Range.{InRange, RoleInRange, RegionInRange}
use Rattle.table.specs.Reading.{behind_header}

-- a header that names this kind and tells this length has this fault
abbrev pub MeasuredWrong : ℕ → ℕ → LayoutFault → Type 0
MeasuredWrong named told f =
    ((f ≡ UnknownKind named) × ((k : Kind) → named ≢ number k))
    ⊎ ((k : Kind) × (f ≡ WrongLength k told) × (named ≡ number k) × (told ≢ size k))

-- after the records counted in `s` a record of this kind may not come, by this fault
abbrev pub KeptOut : Seen → Kind → LayoutFault → Type 0
KeptOut s k f = ((f ≡ OutOfTurn k) × (InTurn s k → ⊥)) ⊎ ((f ≡ TooMany k) × InTurn s k × (Room s k → ⊥))

-- these bytes tell this role, in range
pub record RoleTold (own role mate : ℕ) (r : Role) : Type 0 where
  pub role_is : role_byte r ≡ role
  pub mate_is : mate_byte r ≡ mate
  pub in_range : RoleInRange own r
  pub role_fits : role ≤ 2
  pub mate_fits : MateFits own role mate

-- the first of them that is out of range
abbrev pub RoleMisfits : ℕ → ℕ → ℕ → Misfit → Type 0
RoleMisfits own role mate m =
    ((m ≡ record { field = role_field; value = role }) × (role ≤ 2 → ⊥))
    ⊎ ((role ≤ 2) × (m ≡ record { field = mate_field; value = mate }) × (MateFits own role mate → ⊥))

-- these bytes tell this region, in range
pub record RegionTold (own home branch : ℕ) (r : Region) : Type 0 where
  pub home_is : home_byte r ≡ home
  pub branch_is : branch_byte r ≡ branch
  pub in_range : RegionInRange own r
  pub home_fits : HomeFits own home
  pub branch_fits : BranchFits home branch

-- the first of them that is out of range
abbrev pub RegionMisfits : ℕ → ℕ → ℕ → Misfit → Type 0
RegionMisfits own home branch m =
    ((m ≡ record { field = home_field; value = home }) × (HomeFits own home → ⊥))
    ⊎ (HomeFits own home × (m ≡ record { field = branch_field; value = branch }) × (BranchFits home branch → ⊥))

-- the table with one record more
abbrev pub added : Table → Record → Table
added t (task timing) = record { timing = timing; nodes = t.nodes; arcs = t.arcs }
added t (node n) =
    record { timing = t.timing; nodes = record { items = slice_set t.nodes.items t.nodes.len n; len = t.nodes.len + 1 }; arcs = t.arcs }
added t (arc a) =
    record { timing = t.timing; nodes = t.nodes; arcs = record { items = slice_set t.arcs.items t.arcs.len a; len = t.arcs.len + 1 } }

-- there is a place for a record of this kind
abbrev pub PlaceFor : Table → Kind → Type 0
PlaceFor t OfTask = Unit {0}
PlaceFor t OfNode = t.nodes.len < 64
PlaceFor t OfArc = t.arcs.len < 256

-- the bytes behind a header are those of a record in range, and the table has it now
pub record TakesIn (before : Table) (k : Kind) (bytes : List ℕ) (after : Table) : Type 0 where
  pub it : Record
  pub kind_is : kind it ≡ k
  pub in_range : InRange before.nodes.len it
  pub bytes_are : bytes ≡ fields it
  pub after_is : after ≡ added before it

-- the fault of a misfit in the record at `at`
abbrev pub OutAt : ℕ → (Misfit → Type 0) → Fault → Type 0
OutAt at Out (Range offset misfit) = (offset ≡ at) × Out misfit
OutAt at Out (Layout offset fault) = ⊥

-- a record well laid out at `at`, and where the reader then stands; or the end of a table
abbrev pub StandsNext : List ℕ → ℕ → Seen → ℕ → Seen → Option Part → Type 0
StandsNext bytes at s after counts (Some p) =
    Laid s (drop at bytes) p.kind
    × (p.fields.now ≡ behind_header p.kind (drop at bytes))
    × (p.offset ≡ at)
    × (after ≡ at + size p.kind)
    × (counts ≡ counted s p.kind)
StandsNext bytes at s after counts None = (at ≡ length bytes) × (1 ≤ s.tasks) × (1 ≤ s.nodes)

-- after the records counted in `s` a fault in layout stands at `at`
abbrev pub Faults : List ℕ → ℕ → Seen → Fault → Type 0
Faults bytes at s (Layout offset fault) = (offset ≡ at) × Faulty s (drop at bytes) fault
Faults bytes at s (Range offset misfit) = ⊥
