use Rattle.dispatch.specs.Tables.{ReadyIn, KeptIn, AheadIn}
use Rattle.dispatch.proofs.Facts.{places_once}
use Rattle.dispatch.proofs.theorems.places_once_holds.Goals as goal

pub returns : goal.returns
returns c = λ tasks jobs ahead. places_once (ReadyIn tasks jobs) (KeptIn jobs) (AheadIn ahead)
