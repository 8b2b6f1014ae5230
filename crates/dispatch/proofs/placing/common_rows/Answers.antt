use Rattle.std.proofs.Common.{rules}
use Rattle.sets.specs.Sets.{Has, Marks}
use Rattle.dispatch.specs.Tables.{no_number, row}
use Rattle.dispatch.proofs.Rows.{made}
use Rattle.dispatch.proofs.placing.common_rows.Goals as goal

pub returns : goal.returns
returns c =
    made (λ s r. Marks (λ n. Has (row c.args.left.now s) n × Has (row c.args.kept.now s) n) r) no_number c.from_fn.result c.from_fn.ensures.items (λ s r q l k. search rules)
