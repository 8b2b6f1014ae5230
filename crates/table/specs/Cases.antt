-- Worked cases: a task of one plain node, as literal bytes, and at the ends of the range of a time. Assumes nothing.
use Rattle.std.specs.Prelude.{◌≡◌, ℕ, List, [], ◌∷◌, Ok, Err}
use Rattle.table.specs.declared.fault.Fault.TheVariants.{Layout, Range}
use Rattle.table.specs.declared.fault.LayoutFault.TheVariants.{Missing}
use Rattle.table.specs.declared.fault.Field.TheVariants.{Time}
use Rattle.table.specs.declared.records.Kind.TheVariants.{OfTask}
use Rattle.table.specs.declared.records.Timing.{Timing}
use Rattle.table.specs.declared.records.Node.{Node}
use Rattle.table.specs.declared.records.Role.TheVariants.{Plain}
use Rattle.table.specs.declared.records.Region.TheVariants.{Top}
use Rattle.table.specs.Whole.{table_bytes, held}
use Rattle.table.specs.Reading.{Reads}

abbrev pub lamp_timing : Timing
lamp_timing = record { period = 20; deadline = 10 }

abbrev pub lamp_nodes : ℕ → List Node
lamp_nodes time = record { role = Plain; region = Top; time = time } ∷ []

abbrev pub lamp : ℕ → List ℕ
lamp time = table_bytes lamp_timing (lamp_nodes time) []

pub record CasesStand : Type 0 where
  pub lamp_bytes : lamp 6 ≡
      12 ∷ 0 ∷ 1 ∷ 0 ∷ 20 ∷ 0 ∷ 0 ∷ 0 ∷ 10 ∷ 0 ∷ 0 ∷ 0 ∷ 12 ∷ 0 ∷ 2 ∷ 0 ∷ 0 ∷ 255 ∷ 0 ∷ 255 ∷ 6 ∷ 0 ∷ 0 ∷ 0 ∷ []
  pub longest_time : Reads (lamp 65535) (Ok (held lamp_timing (lamp_nodes 65535) []))
  pub no_time : Reads (lamp 0) (Err (Range 12 (record { field = Time; value = 0 })))
  pub too_long_time : Reads (lamp 65536) (Err (Range 12 (record { field = Time; value = 65536 })))
  pub empty_table : Reads [] (Err (Layout 0 (Missing OfTask)))
