-- The weights of regions: each node adds its time and the weight of its heaviest branch to the region in which it lies.
use Rattle.std.proofs.Common.{◌≡◌, ℕ, zero, suc, ◌+◌, ◌<◌, ◌≤◌, Bool, true, false, cond, ◌&&◌, eqb, ◌≢◌, ◌⊎◌, List, [], ◌∷◌, length, drop, refl, ap, ◌∙◌, subst, inl, inr, arith, drop-cons}
use Rattle.std.proofs.lemmas.List.{drop_all}
use Rattle.std.proofs.lemmas.Bool.{cases_eq, cases_lt}
use Rattle.std.proofs.lemmas.Bool.Decides.{nat_tests}
use Rattle.table.specs.declared.records.Node.{Node}
use Rattle.table.specs.declared.records.Region.{Region}
use Rattle.table.specs.declared.records.Region.TheVariants.{Top, Branch}
use Rattle.table.specs.Whole.{no_node}
use Rattle.task.specs.Graph.{region, time, IsNode, InRegion}
use Rattle.task.proofs.Apart.{top_not_branch, branch_not_top, one_branch, same_home, same_branch}
use Rattle.workload.proofs.Sums.{best_of}

abbrev pub same_region : Region → Region → Bool
same_region Top Top = true
same_region Top (Branch h b) = false
same_region (Branch g a) Top = false
same_region (Branch g a) (Branch h b) = eqb g h && eqb a b

pub region_or_other : (q r : Region) → (q ≡ r) ⊎ (q ≢ r)
region_or_other Top Top = inl refl
region_or_other Top (Branch h b) = inr (top_not_branch h b)
region_or_other (Branch g a) Top = inr (branch_not_top g a)
region_or_other (Branch g a) (Branch h b) = go (cases_eq g h) (cases_eq a b)
  where
    go : (g ≡ h) ⊎ (g ≡ h → ⊥) → (a ≡ b) ⊎ (a ≡ b → ⊥) → (Branch g a ≡ Branch h b) ⊎ (Branch g a ≢ Branch h b)
    go (inl e) (inl f) = inl (one_branch g a h b e f)
    go (inl e) (inr d) = inr (λ s. d (same_branch g a h b s))
    go (inr d) f = inr (λ s. d (same_home g a h b s))

same_is_true : (q r : Region) → q ≡ r → same_region q r ≡ true
same_is_true q r e = subst (λ (x : Region). same_region q x ≡ true) e (itself q)
  where
    itself : (x : Region) → same_region x x ≡ true
    itself Top = refl
    itself (Branch h b) = grind (arith, nat_tests)

other_is_false : (q r : Region) → q ≢ r → same_region q r ≡ false
other_is_false Top Top d = absurd (d refl)
other_is_false Top (Branch h b) d = refl
other_is_false (Branch g a) Top d = refl
other_is_false (Branch g a) (Branch h b) d = go (cases_eq g h) (cases_eq a b)
  where
    go : (g ≡ h) ⊎ (g ≡ h → ⊥) → (a ≡ b) ⊎ (a ≡ b → ⊥) → (eqb g h && eqb a b) ≡ false
    go (inl e) (inl f) = absurd (d (one_branch g a h b e f))
    go (inl e) (inr n) = grind (arith, nat_tests)
    go (inr n) f = grind (arith, nat_tests)

-- over the nodes of the list, of which the first has the number i
abbrev pub weight : ℕ → List Node → Region → ℕ
weight i [] r = 0
weight i (node ∷ later) r =
    weight (suc i) later r + cond (same_region node.region r) (node.time + best_of 8 (λ b. weight (suc i) later (Branch i b))) 0

-- over the nodes from i on
abbrev pub weight_from : List Node → ℕ → Region → ℕ
weight_from ns i = weight i (drop i ns)

abbrev pub branch_weight : List Node → ℕ → ℕ → ℕ → ℕ
branch_weight ns i h b = weight_from ns i (Branch h b)

-- what the node i adds to its region
abbrev pub gain : List Node → ℕ → ℕ
gain ns i = time ns i + best_of 8 (branch_weight ns (suc i) i)

module _ (ns : List Node) where
  weight_step : (i : ℕ) (r : Region) → IsNode ns i → weight_from ns i r ≡ weight_from ns (suc i) r + cond (same_region (region ns i) r) (gain ns i) 0
  weight_step i r n = ap (λ (l : List Node). weight i l r) (drop-cons ns i no_node n)

  pub weight_own : (i : ℕ) (r : Region) → IsNode ns i → region ns i ≡ r → weight_from ns i r ≡ weight_from ns (suc i) r + gain ns i
  weight_own i r n e =
      weight_step i r n ∙ ap (λ (t : Bool). weight_from ns (suc i) r + cond t (gain ns i) 0) (same_is_true (region ns i) r e)

  pub weight_other : (i : ℕ) (r : Region) → IsNode ns i → region ns i ≢ r → weight_from ns i r ≡ weight_from ns (suc i) r
  weight_other i r n d =
      weight_step i r n ∙ ap (λ (t : Bool). weight_from ns (suc i) r + cond t (gain ns i) 0) (other_is_false (region ns i) r d) ∙ omega arith

  pub weight_end : (i : ℕ) (r : Region) → length ns ≤ i → weight_from ns i r ≡ 0
  weight_end i r l = ap (λ (x : List Node). weight i x r) (drop_all i ns l)

  -- a region with a weight has a node
  weighed_within : (k i : ℕ) (r : Region) → length ns ≤ k + i → 0 < weight_from ns i r → (v : ℕ) × InRegion ns r v
  weighed_within zero i r l p = absurd (omega (arith, weight_end i r (omega arith)))
  weighed_within (suc k) i r l p = go (cases_lt i (length ns)) (weighed_within k (suc i) r (omega arith))
    where
      at : IsNode ns i → (0 < weight_from ns (suc i) r → (v : ℕ) × InRegion ns r v) → (region ns i ≡ r) ⊎ (region ns i ≢ r) → (v : ℕ) × InRegion ns r v
      at n later (inl e) = (i, record { is_node = n; lies = e })
      at n later (inr d) = later (omega (arith, weight_other i r n d))

      go : (i < length ns) ⊎ (length ns ≤ i) → (0 < weight_from ns (suc i) r → (v : ℕ) × InRegion ns r v) → (v : ℕ) × InRegion ns r v
      go (inl n) later = at n later (region_or_other (region ns i) r)
      go (inr o) later = absurd (omega (arith, weight_end i r o))

  pub weighed_region : (i : ℕ) (r : Region) → 0 < weight_from ns i r → (v : ℕ) × InRegion ns r v
  weighed_region i r p = weighed_within (length ns) i r (omega arith) p
