use Rattle.std.proofs.Common.{rules}
use Rattle.cli.proofs.PlanLines.{one_listed}
use Rattle.cli.proofs.commands.one_file.Goals as goal

pub returns-in-len1 : goal.returns-in-len1
returns-in-len1 c =
    (c.file-item.result, one_listed c.args.files.now c.file-item.result (search rules) c.file-item.is, c.as_str.ensures.value)
