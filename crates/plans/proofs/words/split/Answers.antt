use Rattle.plans.proofs.Reading.{words_collected}
use Rattle.plans.proofs.words.split.Goals as goal

pub returns : goal.returns
returns c = words_collected c.args.code.now c.split_whitespace.result c.collect.result c.split_whitespace.ensures.rest c.collect.ensures.ran
