-- Best picks have the greatest total: while the nodes are gone through from the last to the first, the times of the taken nodes
-- not yet seen and the weights of the taken regions that hold the others do not fall, and stay if all picks are best.
use Rattle.std.proofs.Common.{◌≡◌, ℕ, zero, suc, ◌+◌, ◌<◌, ◌≤◌, Bool, true, false, cond, ◌≢◌, ◌⊎◌, List, length, sym, refl, ap, ◌∙◌, inl, inr, arith}
use Rattle.std.proofs.lemmas.Bool.{cases_Bool, cases_lt}
use Rattle.table.specs.declared.records.Node.{Node}
use Rattle.table.specs.declared.records.Region.{Region}
use Rattle.table.specs.declared.records.Region.TheVariants.{Top, Branch}
use Rattle.task.specs.Graph.{region, time, IsNode}
use Rattle.workload.specs.Measures.{sum_below, taken_time, total}
use Rattle.workload.specs.Nested.{Nested}
use Rattle.workload.specs.Settling.{takes, Takes}
use Rattle.task.proofs.Apart.{false_not_true, top_not_branch, branch_not_top, one_branch, same_home}
use Rattle.workload.proofs.Sums.{sum_below_same, sum_below_none, sum_below_one, best_of, best_bounds}
use Rattle.workload.proofs.Takes.{takes_top, takes_inside, takes_home, takes_picked}
use Rattle.workload.proofs.Weigh.{weight_from, branch_weight, gain, weight_own, weight_other, weight_end, weighed_region}

-- the weight, from i on, of the branch picked at h, if h is taken
abbrev held : List Node → (ℕ → ℕ) → ℕ → ℕ → ℕ
held ns pick i h = cond (takes ns pick h) (branch_weight ns i h (pick h)) 0

abbrev held_in_all : List Node → (ℕ → ℕ) → ℕ → ℕ → ℕ
held_in_all ns pick i n = weight_from ns i Top + sum_below n (held ns pick i)

-- the taken times before i, and the weights from i on
abbrev potential : List Node → (ℕ → ℕ) → ℕ → ℕ
potential ns pick i = sum_below i (taken_time ns pick) + held_in_all ns pick i i

-- b is a heaviest branch of o
abbrev pub Best : List Node → ℕ → ℕ → Type 0
Best ns o b = branch_weight ns (suc o) o b ≡ best_of 8 (branch_weight ns (suc o) o)

module _ (ns : List Node) (nested : Nested ns) (pick : ℕ → ℕ) where
  held_other : (i h : ℕ) → IsNode ns i → (Takes ns pick h → region ns i ≢ Branch h (pick h)) → held ns pick i h ≡ held ns pick (suc i) h
  held_other i h n d = go (takes ns pick h) (λ t. d t)
    where
      go : (t : Bool) → (t ≡ true → region ns i ≢ Branch h (pick h)) → cond t (branch_weight ns i h (pick h)) 0 ≡ cond t (branch_weight ns (suc i) h (pick h)) 0
      go true d' = weight_other ns i (Branch h (pick h)) n (d' refl)
      go false d' = refl

  -- the node i adds its gain to what is held just if it is taken
  held_step : (i : ℕ) → IsNode ns i → held_in_all ns pick i i ≡ held_in_all ns pick (suc i) i + cond (takes ns pick i) (gain ns i) 0
  held_step i n = go (region ns i) refl
    where
      inside : (a b : ℕ) → region ns i ≡ Branch a b → (takes ns pick i ≡ true) ⊎ (takes ns pick i ≡ false)
          → held_in_all ns pick i i ≡ held_in_all ns pick (suc i) i + cond (takes ns pick i) (gain ns i) 0
      inside a b e (inl t) =
          let above = weight_other ns i Top n (λ f. branch_not_top a b (sym e ∙ f)) in
          let picked : pick a ≡ b = takes_picked ns pick nested.homes_smaller i a b n e t in
          let lies = e ∙ one_branch a b a (pick a) refl (sym picked) in
          let at_home = takes_home ns pick nested.homes_smaller i a b n e t in
          let here : held ns pick i a ≡ held ns pick (suc i) a + gain ns i =
          ap (λ (x : Bool). cond x (branch_weight ns i a (pick a)) 0) at_home ∙ weight_own ns i (Branch a (pick a)) n lies
          ∙ ap (λ (x : Bool). cond x (branch_weight ns (suc i) a (pick a)) 0 + gain ns i) (sym at_home) in
          let rest = sum_below_one (held ns pick (suc i)) (held ns pick i) a (gain ns i) i (nested.homes_smaller i a n (b, e)) here
          (λ h l d. held_other i h n (λ _ f. d (same_home h (pick h) a b (sym f ∙ e)))) in
          let test = ap (λ (x : Bool). cond x (gain ns i) 0) t in
          omega arith
      inside a b e (inr f) =
          let above = weight_other ns i Top n (λ g. branch_not_top a b (sym e ∙ g)) in
          let rest = sum_below_same (held ns pick i) (held ns pick (suc i)) i
          (λ h l. held_other i h n (λ t g. false_not_true (sym f ∙ takes_inside ns pick nested.homes_smaller i h (pick h) n g refl t))) in
          let test = ap (λ (x : Bool). cond x (gain ns i) 0) f in
          omega arith

      go : (r : Region) → region ns i ≡ r → held_in_all ns pick i i ≡ held_in_all ns pick (suc i) i + cond (takes ns pick i) (gain ns i) 0
      go Top e =
          let own = weight_own ns i Top n e in
          let rest = sum_below_same (held ns pick i) (held ns pick (suc i)) i (λ h l. held_other i h n (λ t f. top_not_branch h (pick h) (sym e ∙ f))) in
          let test = ap (λ (x : Bool). cond x (gain ns i) 0) (takes_top ns pick i e) in
          omega arith
      go (Branch a b) e = inside a b e (cases_Bool (takes ns pick i))

  branch_below_best : (i : ℕ) → branch_weight ns (suc i) i (pick i) ≤ best_of 8 (branch_weight ns (suc i) i)
  branch_below_best i = go (cases_lt 0 (branch_weight ns (suc i) i (pick i)))
    where
      go : (0 < branch_weight ns (suc i) i (pick i)) ⊎ (branch_weight ns (suc i) i (pick i) ≤ 0) → branch_weight ns (suc i) i (pick i) ≤ best_of 8 (branch_weight ns (suc i) i)
      go (inl p) =
          let v = weighed_region ns (suc i) (Branch i (pick i)) p in
          best_bounds (branch_weight ns (suc i) i) 8 (pick i) (nested.branches_few v.0 i (pick i) v.1.is_node v.1.lies)
      go (inr z) = omega arith

  potential_grows : (i : ℕ) → IsNode ns i → potential ns pick (suc i) ≤ potential ns pick i
  potential_grows i n = go (takes ns pick i) (held_step i n) (branch_below_best i)
    where
      go : (t : Bool) → held_in_all ns pick i i ≡ held_in_all ns pick (suc i) i + cond t (gain ns i) 0
          → branch_weight ns (suc i) i (pick i) ≤ best_of 8 (branch_weight ns (suc i) i)
          → (sum_below i (taken_time ns pick) + cond t (time ns i) 0) + (weight_from ns (suc i) Top + (sum_below i (held ns pick (suc i)) + cond t (branch_weight ns (suc i) i (pick i)) 0)) ≤ potential ns pick i
      go true s b = omega arith
      go false s b = omega arith

  potential_stays : (i : ℕ) → IsNode ns i → Best ns i (pick i) → potential ns pick (suc i) ≡ potential ns pick i
  potential_stays i n e = go (takes ns pick i) (held_step i n)
    where
      go : (t : Bool) → held_in_all ns pick i i ≡ held_in_all ns pick (suc i) i + cond t (gain ns i) 0
          → (sum_below i (taken_time ns pick) + cond t (time ns i) 0) + (weight_from ns (suc i) Top + (sum_below i (held ns pick (suc i)) + cond t (branch_weight ns (suc i) i (pick i)) 0)) ≡ potential ns pick i
      go true s = omega arith
      go false s = omega arith

  held_at_end : (h : ℕ) → held ns pick (length ns) h ≡ 0
  held_at_end h = go (takes ns pick h)
    where
      go : (t : Bool) → cond t (branch_weight ns (length ns) h (pick h)) 0 ≡ 0
      go true = weight_end ns (length ns) (Branch h (pick h)) (omega arith)
      go false = refl

  potential_at_end : potential ns pick (length ns) ≡ total ns pick
  potential_at_end =
      omega (arith, weight_end ns (length ns) Top (omega arith), sum_below_none (held ns pick (length ns)) (length ns) (λ h l. held_at_end h))

  potential_below : (i : ℕ) → i ≤ length ns → potential ns pick i ≤ weight_from ns 0 Top
  potential_below zero l = omega arith
  potential_below (suc i) l = omega (arith, potential_below i (omega arith), potential_grows i (omega arith))

  potential_same : ((o : ℕ) → o < length ns → Best ns o (pick o)) → (i : ℕ) → i ≤ length ns → potential ns pick i ≡ weight_from ns 0 Top
  potential_same best zero l = omega arith
  potential_same best (suc i) l = omega (arith, potential_same best i (omega arith), potential_stays i (omega arith) (best i (omega arith)))

  pub total_below : total ns pick ≤ weight_from ns 0 Top
  total_below = omega (arith, potential_at_end, potential_below (length ns) (omega arith))

  -- the weight of the top is the total of best picks
  pub best_total : ((o : ℕ) → o < length ns → Best ns o (pick o)) → total ns pick ≡ weight_from ns 0 Top
  best_total best = omega (arith, potential_at_end, potential_same best (length ns) (omega arith))
