use Rattle.std.proofs.Common.{refl}
use Rattle.controller.proofs.Deciding.{admitted_checked}
use Rattle.controller.proofs.tables.Tables.admitted.Goals as goal

pub returns : goal.returns
returns c = admitted_checked c.args.self.now _ _ refl c.ok_or.ensures.value
