-- How a record is written: its length and its kind, two bytes each, and then its fields, all little-endian. Assumes nothing.
use Rattle.std.specs.Prelude.{ℕ, ◌/◌, ◌%◌, List, [], ◌∷◌, ◌++◌}
use Rattle.table.specs.declared.records.Timing.{Timing}
use Rattle.table.specs.declared.records.Node.{Node}
use Rattle.table.specs.declared.records.Arc.{Arc}
use Rattle.table.specs.declared.records.Role.{Role}
use Rattle.table.specs.declared.records.Role.TheVariants.{Plain, Opening, Closing}
use Rattle.table.specs.declared.records.Region.{Region}
use Rattle.table.specs.declared.records.Region.TheVariants.{Top, Branch}
use Rattle.table.specs.declared.records.Kind.{Kind}
use Rattle.table.specs.declared.records.Kind.TheVariants.{OfTask, OfNode, OfArc}

pub data Record : Type 0 where
  task : Timing → Record
  node : Node → Record
  arc : Arc → Record

abbrev pub kind : Record → Kind
kind (task t) = OfTask
kind (node n) = OfNode
kind (arc a) = OfArc

abbrev pub number : Kind → ℕ
number OfTask = 1
number OfNode = 2
number OfArc = 3

-- the length of a whole record
abbrev pub size : Kind → ℕ
size OfTask = 12
size OfNode = 12
size OfArc = 6

abbrev pub two_bytes : ℕ → List ℕ
two_bytes n = n % 256 ∷ n / 256 % 256 ∷ []

abbrev pub four_bytes : ℕ → List ℕ
four_bytes n = n % 256 ∷ n / 256 % 256 ∷ n / 65536 % 256 ∷ n / 16777216 % 256 ∷ []

abbrev pub role_byte : Role → ℕ
role_byte Plain = 0
role_byte Opening = 1
role_byte (Closing mate) = 2

-- a node that is no closing has no mate: 255
abbrev pub mate_byte : Role → ℕ
mate_byte Plain = 255
mate_byte Opening = 255
mate_byte (Closing mate) = mate

-- a node of the top region has no home: 255
abbrev pub home_byte : Region → ℕ
home_byte Top = 255
home_byte (Branch home branch) = home

abbrev pub branch_byte : Region → ℕ
branch_byte Top = 0
branch_byte (Branch home branch) = branch

abbrev pub task_fields : Timing → List ℕ
task_fields t = four_bytes t.period ++ four_bytes t.deadline

abbrev pub node_fields : Node → List ℕ
node_fields n =
    role_byte n.role ∷ home_byte n.region ∷ branch_byte n.region ∷ mate_byte n.role ∷ four_bytes n.time

abbrev pub arc_fields : Arc → List ℕ
arc_fields a = a.from ∷ a.to ∷ []

abbrev pub fields : Record → List ℕ
fields (task t) = task_fields t
fields (node n) = node_fields n
fields (arc a) = arc_fields a

abbrev pub encode : Record → List ℕ
encode r = (two_bytes (size (kind r)) ++ two_bytes (number (kind r))) ++ fields r
