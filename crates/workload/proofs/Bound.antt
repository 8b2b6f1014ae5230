-- The weights of the regions that are not yet added to another come to no more than the times of the nodes.
use Rattle.std.proofs.Common.{◌≡◌, ℕ, zero, suc, ◌+◌, ◌-◌, ◌*◌, ◌<◌, ◌≤◌, ◌≢◌, ◌⊎◌, List, length, sym, refl, ◌∙◌, inl, inr, arith}
use Rattle.table.specs.declared.records.Node.{Node}
use Rattle.table.specs.declared.records.Region.{Region}
use Rattle.table.specs.declared.records.Region.TheVariants.{Top, Branch}
use Rattle.task.specs.Graph.{region, IsNode}
use Rattle.workload.specs.Measures.{sum_below}
use Rattle.workload.specs.Nested.{Nested}
use Rattle.task.proofs.Apart.{top_not_branch, branch_not_top, same_home}
use Rattle.workload.proofs.Sums.{sum_below_le, sum_below_raised, term_below_sum, best_of, best_bounds, best_raised}
use Rattle.workload.proofs.Weigh.{region_or_other, weight_from, branch_weight, gain, weight_own, weight_other, weight_end}

-- the weight of the heaviest branch of h
abbrev heaviest : List Node → ℕ → ℕ → ℕ
heaviest ns i h = best_of 8 (branch_weight ns i h)

-- the top, and the heaviest branches of the numbers below n
abbrev spread : List Node → ℕ → ℕ → ℕ
spread ns i n = weight_from ns i Top + sum_below n (heaviest ns i)

module _ (ns : List Node) (i : ℕ) (n : IsNode ns i) where
  weight_raised : (r : Region) → weight_from ns i r ≤ weight_from ns (suc i) r + gain ns i
  weight_raised r = go (region_or_other (region ns i) r)
    where
      go : (region ns i ≡ r) ⊎ (region ns i ≢ r) → weight_from ns i r ≤ weight_from ns (suc i) r + gain ns i
      go (inl e) = omega (arith, weight_own ns i r n e)
      go (inr d) = omega (arith, weight_other ns i r n d)

  heaviest_raised : (h : ℕ) → heaviest ns i h ≤ heaviest ns (suc i) h + gain ns i
  heaviest_raised h = best_raised (branch_weight ns (suc i) h) (branch_weight ns i h) 8 (gain ns i) (λ b. weight_raised (Branch h b))

  heaviest_kept : (h : ℕ) → ((b : ℕ) → region ns i ≢ Branch h b) → heaviest ns i h ≤ heaviest ns (suc i) h
  heaviest_kept h d =
      omega (arith, best_raised (branch_weight ns (suc i) h) (branch_weight ns i h) 8 0 (λ b. omega (arith, weight_other ns i (Branch h b) n (d b))))

  spread_step : spread ns i i ≤ spread ns (suc i) i + gain ns i
  spread_step = go (region ns i) refl
    where
      go : (r : Region) → region ns i ≡ r → spread ns i i ≤ spread ns (suc i) i + gain ns i
      go Top e =
          let rest = sum_below_le (heaviest ns i) (heaviest ns (suc i)) i (λ h l. heaviest_kept h (λ b f. top_not_branch h b (sym e ∙ f))) in
          omega (arith, weight_own ns i Top n e)
      go (Branch a b) e =
          let rest = sum_below_raised (heaviest ns (suc i)) (heaviest ns i) a (gain ns i) i (heaviest_raised a)
          (λ h l d. heaviest_kept h (λ c f. d (same_home h c a b (sym f ∙ e)))) in
          omega (arith, weight_other ns i Top n (λ f. branch_not_top a b (sym e ∙ f)))

module _ (ns : List Node) (nested : Nested ns) where
  spread_within : (k i : ℕ) → k + i ≡ length ns → spread ns i i ≤ 65535 * k
  spread_within zero i e =
      omega (
        arith,
        weight_end ns i Top (omega arith),
        sum_below_le (heaviest ns i) (λ h. 0) i (λ h l. omega (arith, best_raised (λ b. 0) (branch_weight ns i h) 8 0 (λ b. omega (arith, weight_end ns i (Branch h b) (omega arith))))),
        sum_of_none i,
      )
    where
      sum_of_none : (m : ℕ) → sum_below m (λ h. 0) ≡ 0
      sum_of_none zero = refl
      sum_of_none (suc m) = omega (arith, sum_of_none m)
  spread_within (suc k) i e =
      let n : IsNode ns i = omega arith in
      omega (arith, spread_step ns i n, nested.times_short i n, spread_within k (suc i) (omega arith))

  -- no weight that is added up passes what 64 nodes may run
  pub gain_small : (i : ℕ) → IsNode ns i → gain ns i ≤ 65535 * 64
  gain_small i n =
      let k : ℕ = length ns - suc i in
      omega (arith, nested.few_nodes, nested.times_short i n, spread_within k (suc i) (omega arith), term_below_sum (heaviest ns (suc i)) (suc i) i (omega arith))

  pub branch_small : (i h b : ℕ) → i ≤ length ns → h < i → b < 8 → branch_weight ns i h b ≤ 65535 * 64
  branch_small i h b l m j =
      let k : ℕ = length ns - i in
      omega (arith, nested.few_nodes, spread_within k i (omega arith), term_below_sum (heaviest ns i) i h m, best_bounds (branch_weight ns i h) 8 b j)
