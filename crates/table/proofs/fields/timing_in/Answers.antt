use Rattle.std.proofs.Common.{rules}
use Rattle.table.proofs.Bytes.{eight}
use Rattle.table.proofs.fields.timing_in.Goals as goal

pub returns : goal.returns
returns c =
    let all = eight c.args.fields.now c.requires in
    let p = c.number_in-period.ensures.bytes in
    let d = c.number_in-deadline.ensures.bytes in
    (cc, search rules)
