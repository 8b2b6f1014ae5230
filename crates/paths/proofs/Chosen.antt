-- Lists of paths, and the choice over them.
use Rattle.std.proofs.Common.{◌≡◌, ℕ, ◌⊎◌, List, [], ◌∷◌, ◌++◌, map, Some, None, Option, sym, refl, ap, ◌∙◌, subst, ap₂, inl, inr}
use Rattle.table.specs.declared.records.Node.{Node}
use Rattle.paths.specs.Algebra.{LawfulAlgebra}
use Rattle.paths.specs.Paths.{Path, step, Listed, choice_of, ChoiceOver, node_weight, path_value}
use Rattle.paths.specs.Walks.{BestOver}

listed_left : (p : Path) (ps qs : List Path) → Listed p ps → Listed p (ps ++ qs)
listed_left p [] qs l = absurd l
listed_left p (r ∷ ps) qs (inl e) = inl e
listed_left p (r ∷ ps) qs (inr l) = inr (listed_left p ps qs l)

listed_right : (p : Path) (ps qs : List Path) → Listed p qs → Listed p (ps ++ qs)
listed_right p [] qs l = l
listed_right p (r ∷ ps) qs l = inr (listed_right p ps qs l)

listed_either : (p : Path) (ps qs : List Path) → Listed p (ps ++ qs) → Listed p ps ⊎ Listed p qs
listed_either p [] qs l = inr l
listed_either p (r ∷ ps) qs (inl e) = inl (inl e)
listed_either p (r ∷ ps) qs (inr l) = go (listed_either p ps qs l)
  where
    go : Listed p ps ⊎ Listed p qs → Listed p (r ∷ ps) ⊎ Listed p qs
    go (inl m) = inl (inr m)
    go (inr m) = inr m

-- p steps from u onto a path with the property
abbrev pub StepsOnto : ℕ → (Path → Type 0) → Path → Type 0
StepsOnto u P p = (q : Path) × (p ≡ step u q) × P q

listed_step : (u : ℕ) (q : Path) (qs : List Path) → Listed q qs → Listed (step u q) (map (step u) qs)
listed_step u q (r ∷ qs) (inl e) = inl (ap (step u) e)
listed_step u q (r ∷ qs) (inr l) = inr (listed_step u q qs l)
listed_step u q [] l = absurd l

step_listed : (u : ℕ) (p : Path) (qs : List Path) → Listed p (map (step u) qs) → StepsOnto u (λ q. Listed q qs) p
step_listed u p (r ∷ qs) (inl e) = (r, e, inl refl)
step_listed u p (r ∷ qs) (inr l) = let t = step_listed u p qs l in (t.0, t.1, inr t.2)
step_listed u p [] l = absurd l

module _ {V : Type 0} {choice : V → V → V} {value : Path → V} where
  pub chosen_like : (P Q : Path → Type 0) (x y : V) → ((p : Path) → P p → Q p) → ((p : Path) → Q p → P p) → y ≡ x → ChoiceOver choice value P x → ChoiceOver choice value Q y
  chosen_like P Q x y f g e c =
      record { one = c.one; others = c.others; only = λ p l. f p (c.only p l); every = λ p q. c.every p (g p q); chosen = e ∙ c.chosen }

  -- the path p alone
  pub chosen_one : (P : Path → Type 0) (p : Path) (x : V) → P p → ((q : Path) → P q → q ≡ p) → x ≡ value p → ChoiceOver choice value P x
  chosen_one P p x h alone e =
      record { one = p; others = []; only = only; every = λ q k. inl (alone q k); chosen = e }
    where
      only : (q : Path) → Listed q (p ∷ []) → P q
      only q (inl d) = subst P (sym d) h
      only q (inr l) = absurd l

pub best_like : {V : Type 0} (choice : V → V → V) (value : Path → V) (P Q : Path → Type 0) (o : Option V) → ((p : Path) → P p → Q p) → ((p : Path) → Q p → P p) → BestOver choice value P o → BestOver choice value Q o
best_like choice value P Q (Some x) f g c = chosen_like P Q x x f g refl c
best_like choice value P Q None f g c = λ p q. c p (g p q)

module _ {V : Type 0} {choice extension : V → V → V} (law : LawfulAlgebra V choice extension) where
  choice_append : (value : Path → V) (p q : Path) (ps qs : List Path) → choice_of choice value p (ps ++ (q ∷ qs)) ≡ choice (choice_of choice value p ps) (choice_of choice value q qs)
  choice_append value p q [] qs = refl
  choice_append value p q (r ∷ ps) qs =
      ap (choice (value p)) (choice_append value r q ps qs)
      ∙ sym (law.choice_assoc (value p) (choice_of choice value r ps) (choice_of choice value q qs))

  -- the paths of either kind
  pub chosen_both : (value : Path → V) (P Q : Path → Type 0) (x y : V) → ChoiceOver choice value P x → ChoiceOver choice value Q y → ChoiceOver choice value (λ p. P p ⊎ Q p) (choice x y)
  chosen_both value P Q x y a b =
      record {
        one = a.one;
        others = a.others ++ (b.one ∷ b.others);
        only = λ p l. only p (listed_either p (a.one ∷ a.others) (b.one ∷ b.others) l);
        every = every;
        chosen = ap₂ choice a.chosen b.chosen ∙ sym (choice_append value a.one b.one a.others b.others);
      }
    where
      only : (p : Path) → Listed p (a.one ∷ a.others) ⊎ Listed p (b.one ∷ b.others) → P p ⊎ Q p
      only p (inl l) = inl (a.only p l)
      only p (inr l) = inr (b.only p l)

      every : (p : Path) → P p ⊎ Q p → Listed p ((a.one ∷ a.others) ++ (b.one ∷ b.others))
      every p (inl h) = listed_left p (a.one ∷ a.others) (b.one ∷ b.others) (a.every p h)
      every p (inr h) = listed_right p (a.one ∷ a.others) (b.one ∷ b.others) (b.every p h)

  pub best_joined : (value : Path → V) (P Q : Path → Type 0) (o : Option V) (y r : V) → BestOver choice value P o → ChoiceOver choice value Q y → r ≡ elim o [ Some x ↦ choice x y | None ↦ y ] → ChoiceOver choice value (λ p. P p ⊎ Q p) r
  best_joined value P Q (Some x) y r a b e = chosen_like (λ p. P p ⊎ Q p) (λ p. P p ⊎ Q p) (choice x y) r (λ p h. h) (λ p h. h) e (chosen_both value P Q x y a b)
  best_joined value P Q None y r a b e = chosen_like Q (λ p. P p ⊎ Q p) y r (λ p h. inr h) back e b
    where
      back : (p : Path) → P p ⊎ Q p → Q p
      back p (inl h) = absurd (a p h)
      back p (inr h) = h

  module _ (weight : ℕ → Node → V) (ns : List Node) where
    choice_step : (u : ℕ) (p : Path) (ps : List Path)
        → choice_of choice (path_value extension weight ns) (step u p) (map (step u) ps) ≡ extension (node_weight weight ns u) (choice_of choice (path_value extension weight ns) p ps)
    choice_step u p [] = refl
    choice_step u p (q ∷ ps) =
        ap (choice (extension (node_weight weight ns u) (path_value extension weight ns p))) (choice_step u q ps)
        ∙ sym (law.extension_left (node_weight weight ns u) (path_value extension weight ns p) (choice_of choice (path_value extension weight ns) q ps))

    -- the paths that step from u onto one of those
    pub chosen_step : (P : Path → Type 0) (u : ℕ) (x : V) → ChoiceOver choice (path_value extension weight ns) P x
        → ChoiceOver choice (path_value extension weight ns) (StepsOnto u P) (extension (node_weight weight ns u) x)
    chosen_step P u x c =
        record {
          one = step u c.one;
          others = map (step u) c.others;
          only = λ p l. let t = step_listed u p (c.one ∷ c.others) l in (t.0, t.1, c.only t.0 t.2);
          every = λ p t. subst (λ (r : Path). Listed r (map (step u) (c.one ∷ c.others))) (sym t.1) (listed_step u t.0 (c.one ∷ c.others) (c.every t.0 t.2));
          chosen = ap (extension (node_weight weight ns u)) c.chosen ∙ sym (choice_step u c.one c.others);
        }

  -- Any list of the same paths has the same choice: no path counts twice, and none comes first
  absorbed : (value : Path → V) (p q : Path) (qs : List Path) → Listed p (q ∷ qs) → choice (value p) (choice_of choice value q qs) ≡ choice_of choice value q qs
  absorbed value p q [] (inl e) = ap (λ (r : Path). choice (value r) (value q)) e ∙ law.choice_self (value q)
  absorbed value p q [] (inr l) = absurd l
  absorbed value p q (r ∷ qs) (inl e) =
      ap (λ (s : Path). choice (value s) (choice (value q) (choice_of choice value r qs))) e
      ∙ sym (law.choice_assoc (value q) (value q) (choice_of choice value r qs))
      ∙ ap (λ (x : V). choice x (choice_of choice value r qs)) (law.choice_self (value q))
  absorbed value p q (r ∷ qs) (inr l) =
      sym (law.choice_assoc (value p) (value q) (choice_of choice value r qs))
      ∙ ap (λ (x : V). choice x (choice_of choice value r qs)) (law.choice_comm (value p) (value q))
      ∙ law.choice_assoc (value q) (value p) (choice_of choice value r qs)
      ∙ ap (choice (value q)) (absorbed value p r qs l)

  all_absorbed : (value : Path → V) (p : Path) (ps : List Path) (q : Path) (qs : List Path) → ((r : Path) → Listed r (p ∷ ps) → Listed r (q ∷ qs))
      → choice (choice_of choice value p ps) (choice_of choice value q qs) ≡ choice_of choice value q qs
  all_absorbed value p [] q qs sub = absorbed value p q qs (sub p (inl refl))
  all_absorbed value p (s ∷ ps) q qs sub =
      law.choice_assoc (value p) (choice_of choice value s ps) (choice_of choice value q qs)
      ∙ ap (choice (value p)) (all_absorbed value s ps q qs (λ r l. sub r (inr l)))
      ∙ absorbed value p q qs (sub p (inl refl))

  pub one_choice : (value : Path → V) (P : Path → Type 0) (x y : V) → ChoiceOver choice value P x → ChoiceOver choice value P y → x ≡ y
  one_choice value P x y a b =
      a.chosen
      ∙ sym (all_absorbed value b.one b.others a.one a.others (λ r l. a.every r (b.only r l)))
      ∙ law.choice_comm (choice_of choice value b.one b.others) (choice_of choice value a.one a.others)
      ∙ all_absorbed value a.one a.others b.one b.others (λ r l. b.every r (a.only r l))
      ∙ sym b.chosen
