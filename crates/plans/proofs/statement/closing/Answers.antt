use Rattle.std.proofs.Common.{rules}
use Rattle.plans.proofs.Saying.{closes_said}
use Rattle.plans.proofs.statement.closing.Goals as goal

pub returns : goal.returns
returns c =
    closes_said c.args.words.now c.in_ok-mate.mate c.args.time c.placed.result (search rules) c.in-of.is-of (search rules) c.placed.ensures
