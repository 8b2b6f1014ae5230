use Rattle.dispatch.specs.Tables.{ReadyIn, KeptIn, AheadIn}
use Rattle.dispatch.proofs.Facts.{one_placing}
use Rattle.dispatch.proofs.theorems.one_placing_holds.Goals as goal

pub returns : goal.returns
returns c = λ tasks jobs ahead. one_placing (ReadyIn tasks jobs) (KeptIn jobs) (AheadIn ahead)
