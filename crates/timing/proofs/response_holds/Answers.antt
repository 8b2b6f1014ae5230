use Rattle.timing.proofs.response_holds.Goals as goal
use Rattle.timing.specs.Statements.{system_of}
use Rattle.timing.proofs.Freely.{responds_freely}
use Rattle.timing.proofs.Invariant.{responds}

pub returns : goal.returns
returns g c = record { allowed = λ p q. responds (system_of p q); free = λ p q. responds_freely (system_of p q) }
