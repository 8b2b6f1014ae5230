use Rattle.dispatch.specs.Tables.{ReadyIn, KeptIn, AheadIn}
use Rattle.dispatch.proofs.Facts.{conserving}
use Rattle.dispatch.proofs.theorems.conserving_holds.Goals as goal

pub returns : goal.returns
returns c = λ tasks jobs ahead cores spots busy o. conserving (ReadyIn tasks jobs) (KeptIn jobs) (AheadIn ahead) 16 (λ s n r. r.slot_below) o cores spots busy
