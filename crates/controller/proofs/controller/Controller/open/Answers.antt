use Rattle.std.proofs.Common.{refl}
use Rattle.controller.specs.Does.{opened}
use Rattle.controller.proofs.controller.Controller.open.Goals as goal

pub returns-in-Some : goal.returns-in-Some
returns-in-Some g c = record { opened = (refl, c.in-Some.ensures); begins = opened c.args.cores c.in-Some.ensures }
