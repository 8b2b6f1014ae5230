use Rattle.std.proofs.Common.{ℕ, suc, arith, rules}
use Rattle.sets.specs.Sets.{Has}
use Rattle.sets.proofs.Bits.{bit_below}
use Rattle.sets.proofs.Says.{says_like}
use Rattle.task.proofs.Tested.{told_by_all}
use Rattle.task.proofs.branches.runs_from_zero.Goals as goal

pub returns-then-has : goal.returns-then-has
returns-then-has c =
    let set = c.args.set in
    says_like c.all.result
    (λ kept. record {
      has_zero = c.if-has.ensures;
      none_skipped = λ n h. kept n (let l = bit_below 64 set.bits (suc n) (omega arith) h in omega arith) h;
    })
    (λ r n _. r.none_skipped n)
    (told_by_all (λ (n : ℕ). Has set (suc n) → Has set n) 63 _ _ _ c.all.ensures.ran (λ x q k. search rules) (λ x q k. search rules))
