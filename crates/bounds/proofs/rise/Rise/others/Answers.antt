use Rattle.std.proofs.Common.{◌≡◌, ℕ, ◌^◌, ◌<◌, ◌≤◌, get_or, ◌∙◌, rules, arith}
use Rattle.std.specs.List.{sum}
use Rattle.order.specs.declared.slot.Slot.{Slot}
use Rattle.bounds.specs.Equation.{share_apart}
use Rattle.bounds.specs.Steps.{kept}
use Rattle.bounds.proofs.Sums.{sum_slots}
use Rattle.bounds.proofs.rise.Rise.others.Goals as goal

pub sum-requires-clause-fits : goal.sum-requires-clause-fits
sum-requires-clause-fits c =
    let f = share_apart (kept c.args.self.now.caps c.args.k.number) c.args.self.now.plan c.args.self.now.bounds c.args.k.number in
    let at : (i : ℕ) → i < 16 → (get_or c.map_all.result i 0 ≡ f i) × (f i ≤ 2 ^ 59) =
    λ i l. (let s : Slot = record { number = i; in_range = l } in let w = c.map_all.ensures s 0 in search rules) in
    let t = sum_slots c.map_all.result f (search rules) at in
    let s : sum c.map_all.result < 2 ^ 64 = omega arith in
    search rules

pub returns : goal.returns
returns c =
    let f = share_apart (kept c.args.self.now.caps c.args.k.number) c.args.self.now.plan c.args.self.now.bounds c.args.k.number in
    let at : (i : ℕ) → i < 16 → (get_or c.map_all.result i 0 ≡ f i) × (f i ≤ 2 ^ 59) =
    λ i l. (let s : Slot = record { number = i; in_range = l } in let w = c.map_all.ensures s 0 in search rules) in
    let t = sum_slots c.map_all.result f (search rules) at in
    let e : c.sum.result ≡ sum c.map_all.result = search rules in
    record { value = e ∙ t.0; small = omega arith }
