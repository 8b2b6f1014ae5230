use Rattle.std.proofs.Common.{rules}
use Rattle.sets.proofs.Found.{tried_from_find}
use Rattle.dispatch.specs.Closing.{RightOn}
use Rattle.dispatch.proofs.closing.first_wrong.Goals as goal

pub returns : goal.returns
returns c =
    tried_from_find (RightOn c.args.tasks.now c.args.jobs.now c.args.spots.now c.args.outcomes.now) _ _ _ _ c.find.ensures.ran (λ x q k. search rules) (λ x q k. search rules)
