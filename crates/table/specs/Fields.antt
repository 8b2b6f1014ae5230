-- The fields of a record by their bytes, and the first that is out of range, where `nodes` nodes came before. Assumes nothing.
use Rattle.std.specs.Prelude.{◌≡◌, ℕ, ◌+◌, ◌*◌, ◌<◌, ◌≤◌, ◌≢◌, ◌⊎◌, List, [], ◌∷◌, slice_index}
use Rattle.table.specs.declared.records.Kind.{Kind}
use Rattle.table.specs.declared.records.Kind.TheVariants.{OfTask, OfNode, OfArc}
use Rattle.table.specs.declared.fault.Field.{Field}
use Rattle.table.specs.declared.fault.Field.TheVariants.{Period, Deadline, Role, Mate, Home, Branch, Time, From, To}
use Rattle.table.specs.declared.fault.Misfit.{Misfit}

-- the fields of each kind of record, in the sequence in which they are judged
abbrev pub fields_of : Kind → List Field
fields_of OfTask = Period ∷ Deadline ∷ []
fields_of OfNode = Role ∷ Mate ∷ Home ∷ Branch ∷ Time ∷ []
fields_of OfArc = To ∷ From ∷ []

-- the number in the four bytes at a place
abbrev pub four_told : List ℕ → ℕ → ℕ
four_told bytes at =
    slice_index bytes at + 256 * slice_index bytes (at + 1) + 65536 * slice_index bytes (at + 2) + 16777216 * slice_index bytes (at + 3)

-- the number in a field; `bytes` are those of the record behind its header
abbrev pub value : Field → List ℕ → ℕ
value Period bytes = four_told bytes 0
value Deadline bytes = four_told bytes 4
value Role bytes = slice_index bytes 0
value Home bytes = slice_index bytes 1
value Branch bytes = slice_index bytes 2
value Mate bytes = slice_index bytes 3
value Time bytes = four_told bytes 4
value From bytes = slice_index bytes 0
value To bytes = slice_index bytes 1

-- a closing's mate is a smaller number than its own, and 255 stands in the other roles
abbrev pub MateFits : ℕ → ℕ → ℕ → Type 0
MateFits own role mate = (role ≡ 2 → mate < own) × (role ≢ 2 → mate ≡ 255)

-- a home is a smaller number than the node's own, or 255 for none
abbrev pub HomeFits : ℕ → ℕ → Type 0
HomeFits own home = (home ≡ 255) ⊎ (home < own)

abbrev pub BranchFits : ℕ → ℕ → Type 0
BranchFits home branch = (branch ≤ 7) × (home ≡ 255 → branch ≡ 0)

-- the number in a field is in range
abbrev pub Fits : ℕ → List ℕ → Field → Type 0
Fits nodes bytes Period = (1 ≤ value Period bytes) × (value Period bytes ≤ 1000000)
Fits nodes bytes Deadline = (1 ≤ value Deadline bytes) × (value Deadline bytes ≤ value Period bytes)
Fits nodes bytes Role = value Role bytes ≤ 2
Fits nodes bytes Mate = MateFits nodes (value Role bytes) (value Mate bytes)
Fits nodes bytes Home = HomeFits nodes (value Home bytes)
Fits nodes bytes Branch = BranchFits (value Home bytes) (value Branch bytes)
Fits nodes bytes Time = (1 ≤ value Time bytes) × (value Time bytes ≤ 65535)
Fits nodes bytes From = value From bytes < value To bytes
Fits nodes bytes To = value To bytes < nodes

-- of these fields f is the first that is out of range
abbrev pub FirstOut : ℕ → List ℕ → List Field → Field → Type 0
FirstOut nodes bytes [] f = ⊥
FirstOut nodes bytes (g ∷ gs) f = ((f ≡ g) × (Fits nodes bytes g → ⊥)) ⊎ (Fits nodes bytes g × FirstOut nodes bytes gs f)

-- the misfit tells the first field that is out of range, and the number in it
pub record Misfits (nodes : ℕ) (k : Kind) (bytes : List ℕ) (m : Misfit) : Type 0 where
  pub first : FirstOut nodes bytes (fields_of k) m.field
  pub value_is : m.value ≡ value m.field bytes
