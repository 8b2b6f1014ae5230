use Rattle.std.proofs.Common.{ℕ, ◌≤◌, List, length, Some, None, Ok, ◌∙◌, subst, arith}
use Rattle.std.proofs.lemmas.Result.{err_from_is_err_and}
use Rattle.table.proofs.Kept.{kept_first, place_kept, kept_next, kept_ends, fields_long}
use Rattle.table.proofs.Steps.{stood, answered, refused, faulted, moved}
use Rattle.table.proofs.read.Goals as goal

pub loop-part-init : goal.loop-part-init
loop-part-init c =
    let bytes = c.args.table.now in
    let new = c.new-reader in
    let n = new.ensures in (
      n.0,
      omega (arith, n.1.0),
      moved bytes _ new.result.at _ new.result.seen _ c.empty-records.result n.1.0 n.1.1 c.empty-records.ensures
          (kept_first bytes),
    )

pub returns-in_err-part : goal.returns-in_err-part
returns-in_err-part c =
    let p = err_from_is_err_and c.from_residual.result c.from_residual.ensures.1 in
    let r = c.loop-part.reader in
    let bytes = c.args.table.now in
    rw (p.1, p.2)
    (faulted r.table.now bytes r.at r.seen c.loop-part.records c.in_err-part.field-0.0 c.loop-part.invariant.0 c.loop-part.invariant.2
    c.in_err-part.ensures.value)

pub put-requires : goal.put-requires
put-requires c =
    let r = c.loop-part.reader in
    let bytes = c.args.table.now in
    let inv = c.loop-part.invariant in
    let h = stood r.table.now bytes r.at r.seen c.next.new.self.at c.next.new.self.seen
    c.in_ok-part.field-0 (Some c.in-Some.part) inv.0 c.in-Some.is c.in_ok-part.ensures.value in (
      place_kept bytes r.at r.seen c.loop-part.records c.in-Some.part.kind inv.2 h.0,
      fields_long bytes r.at r.seen c.in-Some.part.kind c.in-Some.part.fields.now h.0 h.1,
    )

pub returns-in_err-put : goal.returns-in_err-put
returns-in_err-put c =
    let e = err_from_is_err_and c.from_residual-in_err-put.result c.from_residual-in_err-put.ensures.1 in
    let r = c.loop-part.reader in
    let bytes = c.args.table.now in
    let inv = c.loop-part.invariant in
    let p = c.in-Some.part in
    let h = stood r.table.now bytes r.at r.seen c.next.new.self.at c.next.new.self.seen
    c.in_ok-part.field-0 (Some p) inv.0 c.in-Some.is c.in_ok-part.ensures.value in
    rw (e.1, e.2)
    (refused bytes r.at r.seen c.loop-part.records p c.in_err-put.field-0.0 inv.2 h.0 h.1 h.2 c.in_err-put.ensures)

pub loop-part-preserved : goal.loop-part-preserved
loop-part-preserved c =
    let r = c.loop-part.reader in
    let bytes = c.args.table.now in
    let inv = c.loop-part.invariant in
    let p = c.in-Some.part in
    let h = stood r.table.now bytes r.at r.seen c.next.new.self.at c.next.new.self.seen
    c.in_ok-part.field-0 (Some p) inv.0 c.in-Some.is c.in_ok-part.ensures.value in
    let got = c.in_ok-put.ensures in
    let k = kept_next bytes r.at r.seen c.loop-part.records p.kind p.fields.now got.it
    (λ i. (c.type_inv.table i).fits) inv.2 h.0 h.1 got.kind_is got.in_range got.bytes_are in (
      c.in_ok-part.ensures.same ∙ inv.0,
      subst (λ (b : List ℕ). c.next.new.self.at ≤ length b) inv.0 c.in_ok-part.ensures.within,
      moved bytes _ c.next.new.self.at _ c.next.new.self.seen _ c.put.new.self h.3 h.4 got.after_is k,
    )

pub returns : goal.returns
returns c =
    let r = c.loop-part.reader in
    let bytes = c.args.table.now in
    let inv = c.loop-part.invariant in
    let h = stood r.table.now bytes r.at r.seen c.next.new.self.at c.next.new.self.seen
    c.in_ok-part.field-0 None inv.0 c.in_default.is c.in_ok-part.ensures.value in
    answered bytes (Ok c.loop-part.records) (kept_ends bytes r.at r.seen c.loop-part.records inv.2 h.0 h.2)
