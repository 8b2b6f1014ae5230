-- What a settling takes, region by region.
use Rattle.std.proofs.Common.{◌≡◌, ℕ, zero, suc, ◌<◌, Bool, true, false, ◌&&◌, eqb, List, sym, refl, ap, ◌∙◌, not-suc-le-zero, arith}
use Rattle.std.proofs.lemmas.Bool.Decides.{nat_tests}
use Rattle.table.specs.declared.records.Node.{Node}
use Rattle.table.specs.declared.records.Region.{Region}
use Rattle.table.specs.declared.records.Region.TheVariants.{Top, Branch}
use Rattle.task.specs.Graph.{region, IsNode}
use Rattle.workload.specs.Nested.{HomesSmaller}
use Rattle.task.proofs.Apart.{false_not_true}
use Rattle.workload.specs.Settling.{takes_region, takes_within, takes, Takes}

and_left : (a b : Bool) → (a && b) ≡ true → a ≡ true
and_left true b e = refl
and_left false b e = e

and_right : (a b : Bool) → (a && b) ≡ true → b ≡ true
and_right true b e = e
and_right false b e = false_not_true e

module _ (ns : List Node) (pick : ℕ → ℕ) where
  pub takes_top : (v : ℕ) → region ns v ≡ Top → Takes ns pick v
  unfolding takes
  takes_top v e = ap (takes_region pick (takes_within v ns pick)) e

  module _ (small : HomesSmaller ns) where
    -- as many homes as you like, if there are enough
    within_enough : (n m v : ℕ) → v < n → v < m → IsNode ns v → takes_within n ns pick v ≡ takes_within m ns pick v
    within_enough zero m v l k i = absurd (not-suc-le-zero l)
    within_enough (suc n) zero v l k i = absurd (not-suc-le-zero k)
    within_enough (suc n) (suc m) v l k i = go (region ns v) refl (within_enough n m)
      where
        go : (r : Region) → region ns v ≡ r
            → ((w : ℕ) → w < n → w < m → IsNode ns w → takes_within n ns pick w ≡ takes_within m ns pick w)
            → takes_region pick (takes_within n ns pick) r ≡ takes_region pick (takes_within m ns pick) r
        go Top e up = refl
        go (Branch h b) e up =
            let less = small v h i (b, e) in
            ap (λ (t : Bool). eqb (pick h) b && t) (up h (omega arith) (omega arith) (omega arith))

    pub takes_rule : (v h b : ℕ) → IsNode ns v → region ns v ≡ Branch h b → takes ns pick v ≡ (eqb (pick h) b && takes ns pick h)
    unfolding takes
    takes_rule v h b i e =
        let less = small v h i (b, e) in
        ap (takes_region pick (takes_within v ns pick)) e
        ∙ ap (λ (t : Bool). eqb (pick h) b && t) (within_enough v (suc h) h less (omega arith) (omega arith))

    pub takes_inside : (v h b : ℕ) → IsNode ns v → region ns v ≡ Branch h b → pick h ≡ b → Takes ns pick h → Takes ns pick v
    takes_inside v h b i e p t = takes_rule v h b i e ∙ grind (arith, nat_tests)

    pub takes_home : (v h b : ℕ) → IsNode ns v → region ns v ≡ Branch h b → Takes ns pick v → Takes ns pick h
    takes_home v h b i e t = and_right (eqb (pick h) b) (takes ns pick h) (sym (takes_rule v h b i e) ∙ t)

    pub takes_picked : (v h b : ℕ) → IsNode ns v → region ns v ≡ Branch h b → Takes ns pick v → pick h ≡ b
    takes_picked v h b i e t =
        let same = and_left (eqb (pick h) b) (takes ns pick h) (sym (takes_rule v h b i e) ∙ t) in
        grind (arith, nat_tests)
