use Rattle.std.proofs.Common.{refl}
use Rattle.controller.proofs.Deciding.{ticking_checked}
use Rattle.controller.proofs.tables.Tables.tick_open.Goals as goal

pub returns : goal.returns
returns c = ticking_checked c.args.self.now _ _ refl c.ok_or.ensures.value
