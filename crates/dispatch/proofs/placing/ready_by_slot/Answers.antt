use Rattle.std.proofs.Common.{rules}
use Rattle.sets.specs.Sets.{Marks}
use Rattle.dispatch.specs.Tables.{no_number, ReadyIn}
use Rattle.dispatch.proofs.Rows.{made}
use Rattle.dispatch.proofs.placing.ready_by_slot.Goals as goal

pub returns : goal.returns
returns c = made (λ s r. Marks (ReadyIn c.args.tasks.now c.args.jobs.now s) r) no_number c.from_fn.result c.from_fn.ensures.items (λ s r q l k. search rules)
