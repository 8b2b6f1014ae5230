-- The nodes that picks take, marked from the first to the last.
use Rattle.std.proofs.Common.{◌≡◌, ℕ, ◌+◌, Bool, true, false, cond, ◌⊎◌, List, length, sym, refl, ap, ◌∙◌, subst, inl, inr, add-one, arith}
use Rattle.std.proofs.lemmas.Bool.{cases_Bool}
use Rattle.table.specs.declared.records.Node.{Node}
use Rattle.table.specs.declared.records.Region.{Region}
use Rattle.table.specs.declared.records.Region.TheVariants.{Top, Branch}
use Rattle.sets.specs.declared.bit_set.BitSet.{BitSet}
use Rattle.sets.specs.Sets.{Has, Marks}
use Rattle.sets.proofs.Marked.{MarksBelow, marks_like, SomeBelow}
use Rattle.task.specs.Graph.{region, time, IsNode}
use Rattle.workload.specs.Measures.{sum_below, taken_time}
use Rattle.workload.specs.Nested.{HomesSmaller}
use Rattle.workload.specs.Settling.{takes, Takes}
use Rattle.workload.specs.Worst.{LeadsInto, TakenNode}
use Rattle.workload.proofs.Takes.{takes_top, takes_inside, takes_home, takes_picked}

module _ (ns : List Node) (small : HomesSmaller ns) (pick : ℕ → ℕ) (v : ℕ) (n : IsNode ns v) (s : BitSet) (m : MarksBelow (Takes ns pick) v s) where
  home_taken : (h : ℕ) → Has s h → Takes ns pick h
  home_taken h i = go (m.only h i)
    where
      go : SomeBelow (λ k j. (j ≡ k) × Takes ns pick k) v h → Takes ns pick h
      go (k, l, (e, t)) = subst (Takes ns pick) (sym e) t

  pub leads_taken : LeadsInto pick s (region ns v) → Takes ns pick v
  leads_taken lead = go (region ns v) refl lead
    where
      go : (r : Region) → region ns v ≡ r → LeadsInto pick s r → Takes ns pick v
      go Top e tt' = takes_top ns pick v e
      go (Branch h b) e (i, p) = takes_inside ns pick small v h b n e p (home_taken h i)

  pub taken_leads : Takes ns pick v → LeadsInto pick s (region ns v)
  taken_leads t = go (region ns v) refl
    where
      go : (r : Region) → region ns v ≡ r → LeadsInto pick s r
      go Top e = tt
      go (Branch h b) e = (
        m.every h (h, small v h n (b, e), (refl, takes_home ns pick small v h b n e t)),
        takes_picked ns pick small v h b n e t,
      )

pub all_marked : (ns : List Node) (pick : ℕ → ℕ) (s : BitSet) → MarksBelow (Takes ns pick) (length ns) s → Marks (TakenNode ns pick) s
all_marked ns pick s m = marks_like m there (λ v t. (v, t.is_node, (refl, t.taken)))
  where
    there : (v : ℕ) → SomeBelow (λ k j. (j ≡ k) × Takes ns pick k) (length ns) v → TakenNode ns pick v
    there v (k, l, (e, t)) = record { is_node = omega arith; taken = subst (Takes ns pick) (sym e) t }

sum_below_more : (n : ℕ) (f : ℕ → ℕ) → sum_below (n + 1) f ≡ sum_below n f + f n
sum_below_more n f = ap (λ (k : ℕ). sum_below k f) (add-one n)

-- one more node is counted where it is marked
module _ (ns : List Node) (pick : ℕ → ℕ) (s : BitSet) (m : Marks (TakenNode ns pick) s) (v : ℕ) (n : IsNode ns v) where
  pub counted : Has s v → sum_below (v + 1) (taken_time ns pick) ≡ sum_below v (taken_time ns pick) + time ns v
  counted h =
      sum_below_more v (taken_time ns pick) ∙ ap (λ (t : Bool). sum_below v (taken_time ns pick) + cond t (time ns v) 0) (m.only v h).taken

  pub passed_over : (Has s v → ⊥) → sum_below (v + 1) (taken_time ns pick) ≡ sum_below v (taken_time ns pick)
  passed_over h = go (cases_Bool (takes ns pick v))
    where
      go : (takes ns pick v ≡ true) ⊎ (takes ns pick v ≡ false) → sum_below (v + 1) (taken_time ns pick) ≡ sum_below v (taken_time ns pick)
      go (inl t) = absurd (h (m.every v (record { is_node = n; taken = t })))
      go (inr f) =
          sum_below_more v (taken_time ns pick) ∙ ap (λ (t : Bool). sum_below v (taken_time ns pick) + cond t (time ns v) 0) f ∙ omega arith
