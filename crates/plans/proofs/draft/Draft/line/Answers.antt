use Rattle.std.proofs.Common.{List, vec_items, vec_len, sym, ap, ◌∙◌, subst}
use Rattle.plans.specs.Drafts.{Blamed}
use Rattle.plans.specs.Statements.{Word, texts, meaning, Makes}
use Rattle.plans.proofs.Spelled.{Slice}
use Rattle.plans.proofs.Texts.{some_words, line_advances, line_blamed}
use Rattle.plans.proofs.draft.Draft.line.Goals as goal

pub returns-in-Ok : goal.returns-in-Ok
returns-in-Ok c = λ ps k.
    line_advances ps c.args.line.now c.args.number (texts (vec_items c.in_ok-words.words)) (meaning c.in-Ok.statement) _ c.take.result
    c.in_ok-words.ensures
    (subst (λ (ws : Slice). Makes (texts ws) (meaning c.in-Ok.statement)) c.deref.ensures.value c.in-Ok.ensures)
    (c.take.ensures ps k)

pub returns : goal.returns
returns c = λ ps k.
    let words = c.in_ok-words.words in
    let same = ap texts c.deref-in-Err.ensures.value in
    line_blamed ps c.args.line.now c.args.number (texts (vec_items words)) c.args.self.now c.blame.result c.in_ok-words.ensures
    (subst (λ (ws : List Word). Blamed ps ws c.args.number c.blame.result) same (
    c.blame.ensures ps k
    (λ e. some_words (vec_items words) (vec_len words) words.ok.0 c.if-is_empty.ensures (sym same ∙ e))
    (λ s m. c.in-Err.ensures s (subst (λ (ws : Slice). Makes (texts ws) s) (c.deref-in-Err.ensures.value ∙ sym c.deref.ensures.value) m))
    ))
