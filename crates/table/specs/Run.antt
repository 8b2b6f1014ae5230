-- Runs of records, one after another, and the sound ones: each in turn, with room for it, and in range. Assumes nothing.
use Rattle.std.specs.Prelude.{◌≡◌, ℕ, ◌+◌, ◌<◌, List, [], ◌++◌}
use Rattle.table.specs.declared.records.Kind.{Kind}
use Rattle.table.specs.declared.records.Kind.TheVariants.{OfTask, OfNode, OfArc}
use Rattle.table.specs.declared.reader.Seen.{Seen}
use Rattle.table.specs.Format.{Record, kind, encode}
use Rattle.table.specs.Range.{InRange}

infixl 20 ◌then◌
-- no record yet, or a run and one record more
pub data Run : Type 0 where
  begin : Run
  ◌then◌ : Run → Record → Run

abbrev pub encoding : Run → List ℕ
encoding begin = []
encoding (run then r) = encoding run ++ encode r

-- how many records of each kind
abbrev pub counted : Seen → Kind → Seen
counted s OfTask = record { tasks = s.tasks + 1; nodes = s.nodes; arcs = s.arcs }
counted s OfNode = record { tasks = s.tasks; nodes = s.nodes + 1; arcs = s.arcs }
counted s OfArc = record { tasks = s.tasks; nodes = s.nodes; arcs = s.arcs + 1 }

abbrev pub seen : Run → Seen
seen begin = record { tasks = 0; nodes = 0; arcs = 0 }
seen (run then r) = counted (seen run) (kind r)

-- one task, then nodes, then arcs, and no arc before the first node
abbrev pub InTurn : Seen → Kind → Type 0
InTurn s OfTask = s.tasks ≡ 0
InTurn s OfNode = (s.tasks ≡ 1) × (s.arcs ≡ 0)
InTurn s OfArc = 0 < s.nodes

-- at most 64 nodes and 256 arcs
abbrev pub Room : Seen → Kind → Type 0
Room s OfTask = Unit {0}
Room s OfNode = s.nodes < 64
Room s OfArc = s.arcs < 256

-- the record r is sound as the next one
pub record Next (s : Seen) (r : Record) : Type 0 where
  pub in_turn : InTurn s (kind r)
  pub room : Room s (kind r)
  pub in_range : InRange s.nodes r

abbrev pub Sound : Run → Type 0
Sound begin = Unit {0}
Sound (run then r) = Sound run × Next (seen run) r
