-- Rows of weights as they change.
use Rattle.std.proofs.Common.{◌≡◌, ℕ, ◌+◌, ◌<◌, ◌≢◌, ◌⊎◌, List, [], length, get_or, set, sym, ap, ◌∙◌, subst, inl, inr, arith, length-set, get_or-set_other, get_or-set_same}
use Rattle.std.proofs.lemmas.Bool.{cases_eq}
use Rattle.table.specs.declared.records.Region.TheVariants.{Branch}
use Rattle.workload.specs.Weights.{weighed, EightWide, Added}

module _ (rows : List (List ℕ)) (long : length rows ≡ 64) (wide : EightWide rows) (h b x : ℕ) (l : h < 64) (m : b < 8) where
  abbrev new_row : List ℕ
  new_row = set (get_or rows h []) b x

  -- the rows with x for the weight of branch b of h
  abbrev changed : List (List ℕ)
  changed = set rows h new_row

  changed_row : get_or changed h [] ≡ new_row
  changed_row = get_or-set_same rows h new_row [] (omega arith)

  changed_wide : EightWide changed
  changed_wide g k = go (cases_eq g h)
    where
      go : (g ≡ h) ⊎ (g ≡ h → ⊥) → length (get_or changed g []) ≡ 8
      go (inl e) =
          ap (λ (i : ℕ). length (get_or changed i [])) e ∙ ap (λ (r : List ℕ). length r) changed_row ∙ length-set (get_or rows h []) b x ∙ wide h l
      go (inr d) = ap (λ (r : List ℕ). length r) (get_or-set_other rows h g new_row [] d) ∙ wide g k

  changed_here : weighed changed h b ≡ x
  changed_here = ap (λ (r : List ℕ). get_or r b 0) changed_row ∙ get_or-set_same (get_or rows h []) b x 0 (omega (arith, wide h l))

  changed_elsewhere : (g a : ℕ) → Branch h b ≢ Branch g a → weighed changed g a ≡ weighed rows g a
  changed_elsewhere g a d = go (cases_eq g h)
    where
      go : (g ≡ h) ⊎ (g ≡ h → ⊥) → weighed changed g a ≡ weighed rows g a
      go (inl e) =
          ap (λ (i : ℕ). weighed changed i a) e ∙ ap (λ (r : List ℕ). get_or r a 0) changed_row
          ∙ get_or-set_other (get_or rows h []) b a x 0 (λ f. d (cc)) ∙ ap (λ (i : ℕ). weighed rows i a) (sym e)
      go (inr e) = ap (λ (r : List ℕ). get_or r a 0) (get_or-set_other rows h g new_row [] e)

pub added_there : (rows : List (List ℕ)) (h b gain : ℕ) → length rows ≡ 64 → EightWide rows → h < 64 → b < 8
    → Added rows (Branch h b) gain (set rows h (set (get_or rows h []) b (weighed rows h b + gain)))
added_there rows h b gain long wide l m =
    let x = weighed rows h b + gain in
    let after = set rows h (set (get_or rows h []) b x) in
    record {
      wide = changed_wide rows long wide h b x l m;
      here = λ g a e.
          let there : weighed after h b ≡ weighed rows h b + gain = changed_here rows long wide h b x l m in
          let home : h ≡ g = cc in
          let branch : b ≡ a = cc in
          subst (λ (j : ℕ). weighed after g j ≡ weighed rows g j + gain) branch (subst (λ (i : ℕ). weighed after i b ≡ weighed rows i b + gain) home there);
      elsewhere = λ g a d. changed_elsewhere rows long wide h b x l m g a d;
    }
