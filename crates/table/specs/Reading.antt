-- What reading a table answers. Assumes nothing.
use Rattle.std.specs.Prelude.{◌≡◌, ℕ, ◌-◌, List, ◌++◌, length, take, drop, Ok, Err, Result, ◌≢◌}
use Rattle.table.specs.declared.fault.Fault.{Fault}
use Rattle.table.specs.declared.fault.Fault.TheVariants.{Layout, Range}
use Rattle.table.specs.declared.fault.LayoutFault.{LayoutFault}
use Rattle.table.specs.declared.fault.Misfit.{Misfit}
use Rattle.table.specs.declared.records.Kind.{Kind}
use Rattle.table.specs.declared.records.Table.{Table}
use Rattle.table.specs.Format.{Record, size, encode}
use Rattle.table.specs.Range.{InRange}
use Rattle.table.specs.Run.{Run, encoding, seen, Sound}
use Rattle.table.specs.Whole.{Encodes}
use Rattle.table.specs.Layout.{Laid, Faulty}
use Rattle.table.specs.Fields.{Misfits}

-- the bytes are the encoding of a sound run, which ends at this offset, and then this rest
pub record Stops (bytes : List ℕ) (offset : ℕ) (run : Run) (rest : List ℕ) : Type 0 where
  pub sound : Sound run
  pub bytes_are : bytes ≡ encoding run ++ rest
  pub offset_is : offset ≡ length (encoding run)

-- after a sound run the layout of what stands at this offset has this fault
pub record LayoutAt (bytes : List ℕ) (offset : ℕ) (fault : LayoutFault) : Type 0 where
  pub run : Run
  pub rest : List ℕ
  pub stops : Stops bytes offset run rest
  pub faulty : Faulty (seen run) rest fault

-- no record in range is written as these bytes begin
abbrev pub OutOfRange : ℕ → List ℕ → Type 0
OutOfRange nodes rest = (r : Record) (more : List ℕ) → InRange nodes r → rest ≢ encode r ++ more

-- a record's bytes behind its header
abbrev pub behind_header : Kind → List ℕ → List ℕ
behind_header k rest = take (size k - 4) (drop 4 rest)

-- after a sound run a record stands at this offset that is well laid out and out of range, first in this field
pub record RangeAt (bytes : List ℕ) (offset : ℕ) (misfit : Misfit) : Type 0 where
  pub run : Run
  pub rest : List ℕ
  pub stops : Stops bytes offset run rest
  pub kind : Kind
  pub laid : Laid (seen run) rest kind
  pub out_of_range : OutOfRange (seen run).nodes rest
  pub misfits : Misfits (seen run).nodes kind (behind_header kind rest) misfit

abbrev pub Reads : List ℕ → Result Table Fault → Type 0
Reads bytes (Ok table) = Encodes bytes table
Reads bytes (Err (Layout offset fault)) = LayoutAt bytes offset fault
Reads bytes (Err (Range offset misfit)) = RangeAt bytes offset misfit

-- the answer is right, and no other is
pub record Answered (bytes : List ℕ) (answer : Result Table Fault) : Type 0 where
  pub right : Reads bytes answer
  pub only : (other : Result Table Fault) → Reads bytes other → other ≡ answer
