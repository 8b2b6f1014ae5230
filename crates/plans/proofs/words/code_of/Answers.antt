use Rattle.std.proofs.Common.{rules}
use Rattle.plans.proofs.Reading.{uncommented}
use Rattle.plans.proofs.words.code_of.Goals as goal

pub returns : goal.returns
returns c = uncommented c.args.line.now c.map_or.result.now c.split_once.result (search rules) (search rules)
