-- Another pick for one opening changes only what lies inside it.
use Rattle.std.proofs.Common.{◌≡◌, ℕ, zero, suc, ◌<◌, Bool, cond, ◌&&◌, eqb, ◌≢◌, ◌⊎◌, List, sym, refl, ap, ◌∙◌, subst, ap₂, inl, inr, not-suc-le-zero, arith}
use Rattle.std.proofs.lemmas.Bool.{cases_eq}
use Rattle.std.proofs.lemmas.Bool.Decides.{nat_tests}
use Rattle.table.specs.declared.records.Arc.{Arc}
use Rattle.table.specs.declared.records.Node.{Node}
use Rattle.table.specs.declared.records.Region.{Region}
use Rattle.table.specs.declared.records.Region.TheVariants.{Top, Branch}
use Rattle.task.specs.Graph.{region, IsNode, HasBranch, Ranged}
use Rattle.task.specs.Shape.{Shaped}
use Rattle.task.proofs.Follows.{branch_zero}
use Rattle.workload.specs.Nested.{HomesSmaller}
use Rattle.workload.specs.Settling.{Settling, takes, Takes}
use Rattle.workload.proofs.Inside.{Inside, directly, deeper, inside_greater}
use Rattle.workload.proofs.Takes.{takes_top, takes_rule, takes_inside, takes_home, takes_picked}

-- the picks, but the branch b for the opening o
abbrev pub repick : (ℕ → ℕ) → ℕ → ℕ → ℕ → ℕ
repick pick o b v = cond (eqb v o) b (pick v)

repick_same : (pick : ℕ → ℕ) (o b : ℕ) → repick pick o b o ≡ b
repick_same pick o b = grind (arith, nat_tests)

repick_other : (pick : ℕ → ℕ) (o b v : ℕ) → v ≢ o → repick pick o b v ≡ pick v
repick_other pick o b v d = grind (arith, nat_tests)

pub settling_repick : (ns : List Node) (pick : ℕ → ℕ) (o b : ℕ) → Settling ns pick → HasBranch ns o b → Settling ns (repick pick o b)
settling_repick ns pick o b s h v op = go (cases_eq v o)
  where
    go : (v ≡ o) ⊎ (v ≡ o → ⊥) → HasBranch ns v (repick pick o b v)
    go (inl e) =
        let same : repick pick o b v ≡ b = ap (repick pick o b) e ∙ repick_same pick o b in
        subst (HasBranch ns v) (sym same) (subst (λ (x : ℕ). HasBranch ns x b) (sym e) h)
    go (inr d) = subst (HasBranch ns v) (sym (repick_other pick o b v d)) (s v op)

module _ (ns : List Node) (small : HomesSmaller ns) where
  takes_agree_below : (p q : ℕ → ℕ) (n v : ℕ) → v < n → IsNode ns v → ((o : ℕ) → Inside ns o v → p o ≡ q o) → takes ns p v ≡ takes ns q v
  takes_agree_below p q zero v l i same = absurd (not-suc-le-zero l)
  takes_agree_below p q (suc n) v l i same = go (region ns v) refl (takes_agree_below p q n)
    where
      go : (r : Region) → region ns v ≡ r
          → ((w : ℕ) → w < n → IsNode ns w → ((o : ℕ) → Inside ns o w → p o ≡ q o) → takes ns p w ≡ takes ns q w) → takes ns p v ≡ takes ns q v
      go Top e up = takes_top ns p v e ∙ sym (takes_top ns q v e)
      go (Branch h b) e up =
          let less = small v h i (b, e) in
          takes_rule ns p small v h b i e
          ∙ ap₂ (λ (x : ℕ) (t : Bool). eqb x b && t) (same h (directly (b, e))) (up h (omega arith) (omega arith) (λ o k. same o (deeper (b, e) k)))
          ∙ sym (takes_rule ns q small v h b i e)

  -- settlings that pick alike for all homes of a node take it alike
  takes_agree : (p q : ℕ → ℕ) (v : ℕ) → IsNode ns v → ((o : ℕ) → Inside ns o v → p o ≡ q o) → takes ns p v ≡ takes ns q v
  takes_agree p q v i same = takes_agree_below p q (suc v) v (omega arith) i same

  pub takes_repick : (pick : ℕ → ℕ) (o b v : ℕ) → IsNode ns v → (Inside ns o v → ⊥) → Takes ns pick v → Takes ns (repick pick o b) v
  takes_repick pick o b v i out t =
      takes_agree (repick pick o b) pick v i (λ x k. repick_other pick o b x (λ e. out (subst (λ (y : ℕ). Inside ns y v) e k))) ∙ t

  pub takes_beside : (pick : ℕ → ℕ) (u v : ℕ) → IsNode ns u → IsNode ns v → region ns u ≡ region ns v → Takes ns pick v → Takes ns pick u
  takes_beside pick u v i j same t = go (region ns u) refl
    where
      go : (r : Region) → region ns u ≡ r → Takes ns pick u
      go Top e = takes_top ns pick u e
      go (Branch h b) e =
          let f = sym same ∙ e in
          takes_inside ns pick small u h b i e (takes_picked ns pick small v h b j f t) (takes_home ns pick small v h b j f t)

  -- with its home taken, the pick of a node's branch takes the node
  pub takes_repicked : (pick : ℕ → ℕ) (v h b : ℕ) → IsNode ns v → region ns v ≡ Branch h b → Takes ns pick h → Takes ns (repick pick h b) v
  takes_repicked pick v h b i e t =
      let less = small v h i (b, e) in
      let n : IsNode ns h = omega arith in
      takes_inside ns (repick pick h b) small v h b i e (repick_same pick h b)
      (takes_repick pick h b h n (λ k. omega (arith, inside_greater ns small h h n k)) t)

module _ (ns : List Node) (arcs : List Arc) (ranged : Ranged ns arcs) (s : Shaped ns arcs) where
  abbrev SettledWith : ℕ → Type 0
  SettledWith v = (pick : ℕ → ℕ) × Settling ns pick × Takes ns pick v

  settled_below : (n v : ℕ) → v < n → IsNode ns v → SettledWith v
  settled_below zero v l i = absurd (not-suc-le-zero l)
  settled_below (suc n) v l i = go (region ns v) refl (settled_below n)
    where
      inside : (h b : ℕ) → region ns v ≡ Branch h b → SettledWith h → SettledWith v
      inside h b e (pick, settles, t) = (
        repick pick h b,
        settling_repick ns pick h b settles (v, record { is_node = i; lies = e }),
        takes_repicked ns ranged.homes_smaller pick v h b i e t,
      )

      go : (r : Region) → region ns v ≡ r → ((w : ℕ) → w < n → IsNode ns w → SettledWith w) → SettledWith v
      go Top e up = (λ o. 0, branch_zero ns arcs s, takes_top ns (λ o. 0) v e)
      go (Branch h b) e up =
          let less = ranged.homes_smaller v h i (b, e) in
          inside h b e (up h (omega arith) (omega arith))

  -- some settling takes a given node
  pub some_settling_takes : (v : ℕ) → IsNode ns v → SettledWith v
  some_settling_takes v i = settled_below (suc v) v (omega arith) i
