use Rattle.std.proofs.Common.{refl, arith}
use Rattle.plans.proofs.Drafting.{record_taken, record_shut, record_barred}
use Rattle.plans.proofs.draft.Draft.write.Goals as goal

pub returns-in_default : goal.returns-in_default
returns-in_default c = λ ps s k is.
    let e = record_shut c.args.self.now ps s c.args.record.now _ k is c.args.self.now.entries.ok.0 c.in_default.ensures.variant.1 in
    (refl, e.0, e.1)

pub returns-in_default-source : goal.returns-in_default-source
returns-in_default-source c = λ ps s k is.
    let e = record_barred c.args.self.now ps s c.args.record.now _ c.in-Some.entry.now k is
    (omega (arith, c.args.self.now.entries.ok.0, c.in-Some.ensures.item.3.0)) c.in-Some.ensures.item.1 c.in_default-source.not-Written in
    (refl, e.0, e.1)

pub returns : goal.returns
returns c = λ ps s k is.
    record_taken c.args.self.now _ ps c.args.line k _ c.in-Some.entry.now (omega (arith, c.args.self.now.entries.ok.0, c.in-Some.ensures.item.3.0))
    c.in-Some.ensures.item.1 s c.args.record.now c.in-Written.table c.extend_from_slice.new.self is c.in-Written.is refl refl refl
    c.in_ok-extend_from_slice.ensures.items
