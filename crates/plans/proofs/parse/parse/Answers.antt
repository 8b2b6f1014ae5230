use Rattle.std.proofs.Common.{ℕ, ◌+◌, Ok, Err, sym, subst}
use Rattle.std.specs.Iterator.Adapters.{enumerate_source, enumerate_count}
use Rattle.std.specs.Str.Iter.{lines_rest}
use Rattle.plans.specs.Drafts.{ReadsLine}
use Rattle.plans.proofs.Texts.{Reading, one_line_more, wrong_line, told_on}
use Rattle.plans.proofs.parse.parse.Goals as goal

pub loop-index-preserved : goal.loop-index-preserved
loop-index-preserved c =
    let k = c.loop-index.invariant in
    let steps = c.in-Some.ensures.steps in
    let first = steps.0.0 in
    subst (λ (n : ℕ). Reading c.args.text.now (lines_rest (enumerate_source c.next.new.self)) n c.line.new.self) (sym steps.2) (
    one_line_more c.args.text.now (lines_rest (enumerate_source c.loop-index.index-iterator)) c.in-Some.line.now
    (lines_rest (enumerate_source c.next.new.self)) (enumerate_count c.loop-index.index-iterator) c.loop-index.draft c.line.new.self k first.0 first.2
    (subst (λ (n : ℕ). ReadsLine k.statements c.in-Some.line.now (n + 1) c.line.new.self (Ok tt)) steps.1 (c.in_ok-line.ensures k.statements k.drafted))
    )

pub returns-in_err-line : goal.returns-in_err-line
returns-in_err-line c =
    let k = c.loop-index.invariant in
    let steps = c.in-Some.ensures.steps in
    let first = steps.0.0 in
    let flaw = c.in_err-line.field-0.0 in
    told_on c.args.text.now c.from_residual.result flaw c.from_residual.ensures.1 (
    wrong_line c.args.text.now (lines_rest (enumerate_source c.loop-index.index-iterator)) c.in-Some.line.now
    (lines_rest (enumerate_source c.next.new.self)) (enumerate_count c.loop-index.index-iterator) c.loop-index.draft c.line.new.self flaw k first.0 first.2
    (subst (λ (n : ℕ). ReadsLine k.statements c.in-Some.line.now (n + 1) c.line.new.self (Err flaw)) steps.1 (c.in_err-line.ensures k.statements k.drafted))
    )
