use Rattle.std.proofs.Common.{◌≡◌, ◌<◌, ◌⊎◌, ℕ, true, Some, None, get_or, [], inl, inr, subst, rules}
use Rattle.sets.specs.Sets.{Has}
use Rattle.sets.specs.Tests.{Says}
use Rattle.bounds.proofs.Pending.{reopened_union}
use Rattle.bounds.proofs.rise.Rise.reopened.Goals as goal

pub returns : goal.returns
returns c =
    let row = get_or c.args.self.now.caps c.index.result [] in
    let told : (j : ℕ) → j < 16 → Has c.select.result j ⊎ (get_or row j None ≡ Some 0) =
    λ j l.
    (let w = c.select.ensures.tested j l in
    let t : (w.0 ≡ true) ⊎ (get_or row j None ≡ Some 0) = search rules in
    elim t [ inl e ↦ inl (subst (λ b. Says b (Has c.select.result j)) e w.2) | inr e ↦ inr e ]) in
    let u = reopened_union c.args.before c.select.result row c.select.ensures.within told in
    search rules
