use Rattle.std.proofs.Common.{◌≡◌, ℕ, ◌<◌, length, get_or, None, sym, ◌∙◌, arith, rules}
use Rattle.std.proofs.lemmas.List.{ext_get_or, length-map, get_or-map}
use Rattle.bounds.specs.Equation.{held, first_bound_of, first_bounds_of}
use Rattle.bounds.proofs.rise.first_bounds.Goals as goal

pub returns : goal.returns
returns c =
    let plan = c.args.plan.now in
    let at : (k : ℕ) → k < 16 → get_or c.map.result k 0 ≡ first_bound_of (held plan k) =
    λ k l. (let h = c.map.ensures.items.at k None 0 l in search rules) in
    let long : length c.map.result ≡ 16 = search rules in
    ext_get_or 0 c.map.result (first_bounds_of plan) (long ∙ sym (length-map plan.slots first_bound_of ∙ plan.slotted))
    (λ k l. at k (omega arith) ∙ sym (get_or-map first_bound_of plan.slots k None 0 (omega arith)))
