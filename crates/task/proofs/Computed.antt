-- Tests that compute, each with what it decides.
use Rattle.std.proofs.Common.{◌≡◌, ℕ, zero, suc, ◌<◌, ◌≤◌, Bool, true, false, not, ◌&&◌, ◌||◌, eqb, ltb, ◌⊎◌, Decides, sym, refl, subst, subst₂, inl, inr, arith}
use Rattle.std.proofs.lemmas.Bool.{cases_Bool}
use Rattle.std.proofs.lemmas.Bool.Decides.{Decides-like, Decides-not, Decides-and, Decides-or, Decides-eqb, Decides-ltb, Decides-below_and, Decides-below_or, not_from_Decides}
use Rattle.table.specs.declared.records.Region.{Region}
use Rattle.table.specs.declared.records.Region.TheVariants.{Top, Branch}
use Rattle.table.specs.declared.records.Role.{Role}
use Rattle.table.specs.declared.records.Role.TheVariants.{Plain, Opening, Closing}
use Rattle.sets.specs.Sets.{JustOne}
use Rattle.task.proofs.Apart.{false_not_true, top_not_branch, branch_not_top, one_branch, same_home, same_branch, plain_not_opening, plain_not_closing, opening_not_closing, closing_not_opening, one_closing, same_mate}

pub record Test (P : Type 0) : Type 0 where
  pub answer : Bool
  pub decides : Decides answer P

pub holds : {P : Type 0} (t : Test P) → t.answer ≡ true → P
holds t e = t.decides.0 e

abbrev pub t_like : {A B : Type 0} → (A → B) → (B → A) → Test A → Test B
t_like f g t = record { answer = t.answer; decides = Decides-like t.answer f g t.decides }

abbrev pub t_and : {A B : Type 0} → Test A → Test B → Test (A × B)
t_and s t = record { answer = s.answer && t.answer; decides = Decides-and s.answer t.answer s.decides t.decides }

abbrev pub t_or : {A B : Type 0} → Test A → Test B → Test (A ⊎ B)
t_or s t = record { answer = s.answer || t.answer; decides = Decides-or s.answer t.answer s.decides t.decides }

abbrev pub t_not : {A : Type 0} → Test A → Test (A → ⊥)
t_not t = record { answer = not t.answer; decides = Decides-not t.answer t.decides }

pub either_way : {A B : Type 0} → (A → ⊥) ⊎ B → A → B
either_way (inl h) a = absurd (h a)
either_way (inr b) a = b

pub some_way : {A B : Type 0} (s : Test A) → (A → B) → (A → ⊥) ⊎ B
some_way {A} {B} s f = go (cases_Bool s.answer)
  where
    go : (s.answer ≡ true) ⊎ (s.answer ≡ false) → (A → ⊥) ⊎ B
    go (inl e) = inr (f (s.decides.0 e))
    go (inr e) = inl (not_from_Decides s.answer s.decides e)

abbrev pub t_implies : {A B : Type 0} → Test A → Test B → Test (A → B)
t_implies s t = t_like either_way (some_way s) (t_or (t_not s) t)

abbrev pub t_eq : (a b : ℕ) → Test (a ≡ b)
t_eq a b = record { answer = eqb a b; decides = Decides-eqb a b }

abbrev pub t_lt : (a b : ℕ) → Test (a < b)
t_lt a b = record { answer = ltb a b; decides = Decides-ltb a b }

pub below_suc : (a b : ℕ) → a < suc b → a ≤ b
below_suc a b l = omega arith

pub suc_below : (a b : ℕ) → a ≤ b → a < suc b
suc_below a b l = omega arith

abbrev pub t_le : (a b : ℕ) → Test (a ≤ b)
t_le a b = t_like (below_suc a b) (suc_below a b) (t_lt a (suc b))

abbrev pub all_below : (ℕ → Bool) → ℕ → Bool
all_below f zero = true
all_below f (suc n) = f n && all_below f n

abbrev pub some_below : (ℕ → Bool) → ℕ → Bool
some_below f zero = false
some_below f (suc n) = f n || some_below f n

-- of each number below n
abbrev pub t_all : (n : ℕ) (P : ℕ → Type 0) → ((k : ℕ) → Test (P k)) → Test ((k : ℕ) → k < n → P k)
t_all n P t =
    let p : ℕ → Bool = λ k. (t k).answer in
    record { answer = all_below p n; decides = Decides-below_and p P (all_below p) (λ k. (t k).decides) refl (λ _. refl) n }

-- of some number below n
abbrev pub t_some : (n : ℕ) (P : ℕ → Type 0) → ((k : ℕ) → Test (P k)) → Test ((k : ℕ) × (k < n) × P k)
t_some n P t =
    let p : ℕ → Bool = λ k. (t k).answer in
    record { answer = some_below p n; decides = Decides-below_or p P (some_below p) (λ k. (t k).decides) refl (λ _. refl) n }

-- of just one number, where all that have the property lie below n
abbrev pub t_just_one : (n : ℕ) (P : ℕ → Type 0) → ((k : ℕ) → P k → k < n) → ((k : ℕ) → Test (P k)) → Test (JustOne P)
t_just_one n P small t =
    t_like
    (λ s. record { the_one = s.0; has_it = s.2.0; no_other = λ w p. s.2.1 w (small w p) p })
    (λ j. (j.the_one, small j.the_one j.has_it, (j.has_it, λ w l p. j.no_other w p)))
    (t_some n (λ v. P v × ((w : ℕ) → w < n → P w → w ≡ v)) (λ v. t_and (t v) (t_all n (λ w. P w → w ≡ v) (λ w. t_implies (t w) (t_eq w v)))))

abbrev pub yes_test : {P : Type 0} → P → Test P
yes_test p = record { answer = true; decides = (λ e. p, λ q. refl) }

abbrev pub no_test : {P : Type 0} → (P → ⊥) → Test P
no_test h = record { answer = false; decides = (false_not_true, λ p. absurd (h p)) }

abbrev pub t_region : (q r : Region) → Test (q ≡ r)
t_region Top Top = yes_test refl
t_region Top (Branch h b) = no_test (top_not_branch h b)
t_region (Branch g a) Top = no_test (branch_not_top g a)
t_region (Branch g a) (Branch h b) =
    t_like (λ p. one_branch g a h b p.0 p.1) (λ e. (same_home g a h b e, same_branch g a h b e)) (t_and (t_eq g h) (t_eq a b))

-- of the home and the branch, where there are some
abbrev pub t_branch : (r : Region) (P : ℕ → ℕ → Type 0) → ((h b : ℕ) → Test (P h b)) → Test ((h b : ℕ) → r ≡ Branch h b → P h b)
t_branch Top P t = yes_test (λ h b e. absurd (top_not_branch h b e))
t_branch (Branch g a) P t = t_like (λ p h b e. subst₂ P (same_home g a h b e) (same_branch g a h b e) p) (λ f. f g a refl) (t g a)

-- of the home, which has to be there
abbrev pub t_home : (r : Region) (P : ℕ → Type 0) → ((h : ℕ) → Test (P h)) → Test ((h : ℕ) × ((b : ℕ) × (r ≡ Branch h b)) × P h)
t_home Top P t = no_test (λ x. top_not_branch x.0 x.1.0 x.1.1)
t_home (Branch g a) P t = t_like (λ p. (g, (a, refl), p)) (λ x. subst P (sym (same_home g a x.0 x.1.0 x.1.1)) x.2) (t g)

abbrev pub t_opening : (r : Role) → Test (r ≡ Opening)
t_opening Plain = no_test plain_not_opening
t_opening Opening = yes_test refl
t_opening (Closing o) = no_test (closing_not_opening o)

abbrev pub t_closing : (r : Role) (o : ℕ) → Test (r ≡ Closing o)
t_closing Plain o = no_test (plain_not_closing o)
t_closing Opening o = no_test (opening_not_closing o)
t_closing (Closing m) o = t_like (one_closing m o) (same_mate m o) (t_eq m o)

-- of the mate, where there is one
abbrev pub t_mate : (r : Role) (P : ℕ → Type 0) → ((o : ℕ) → Test (P o)) → Test ((o : ℕ) → r ≡ Closing o → P o)
t_mate Plain P t = yes_test (λ o e. absurd (plain_not_closing o e))
t_mate Opening P t = yes_test (λ o e. absurd (opening_not_closing o e))
t_mate (Closing m) P t = t_like (λ p o e. subst P (same_mate m o e) p) (λ f. f m refl) (t m)
