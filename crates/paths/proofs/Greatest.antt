-- The greatest of the values of paths.
use Rattle.std.proofs.Common.{◌≡◌, ℕ, ◌<◌, ◌≤◌, max, ◌⊎◌, List, [], ◌∷◌, sym, refl, ap, ◌∙◌, inl, inr, le_trans, le_of_eq, arith}
use native.Mathlib.Nat.{le-max_left, le-max_right, max-eq_left, max-eq_right}
use Rattle.std.proofs.lemmas.Bool.{cases_lt}
use Rattle.paths.specs.Paths.{Path, Listed, choice_of, ChoiceOver}
use Rattle.paths.specs.Instances.{Greatest}

module _ (value : Path → ℕ) where
  listed_below : (p q : Path) (qs : List Path) → Listed p (q ∷ qs) → value p ≤ choice_of max value q qs
  listed_below p q [] (inl e) = le_of_eq (ap value e)
  listed_below p q [] (inr l) = absurd l
  listed_below p q (r ∷ qs) (inl e) = le_trans (le_of_eq (ap value e)) (le-max_left (value q) (choice_of max value r qs))
  listed_below p q (r ∷ qs) (inr l) = le_trans (listed_below p r qs l) (le-max_right (value q) (choice_of max value r qs))

  one_attains : (q : Path) (qs : List Path) → (p : Path) × Listed p (q ∷ qs) × (value p ≡ choice_of max value q qs)
  one_attains q [] = (q, inl refl, refl)
  one_attains q (r ∷ qs) = go (cases_lt (choice_of max value r qs) (value q)) (one_attains r qs)
    where
      go : (choice_of max value r qs < value q) ⊎ (value q ≤ choice_of max value r qs) → (p : Path) × Listed p (r ∷ qs) × (value p ≡ choice_of max value r qs)
          → (p : Path) × Listed p (q ∷ (r ∷ qs)) × (value p ≡ max (value q) (choice_of max value r qs))
      go (inl l) t = (q, inl refl, sym (max-eq_left (omega arith)))
      go (inr l) t = (t.0, inr t.1, t.2 ∙ sym (max-eq_right l))

  pub greatest : (P : Path → Type 0) (x : ℕ) → ChoiceOver max value P x → Greatest value P x
  greatest P x c =
      let t = one_attains c.one c.others in
      record {
        at_least = λ p h. le_trans (listed_below p c.one c.others (c.every p h)) (le_of_eq (sym c.chosen));
        attained = (t.0, c.only t.0 t.1, t.2 ∙ sym c.chosen);
      }
