-- Tests and what they say.
use Rattle.std.proofs.Common.{◌≡◌, ℕ, Bool, true, false, eqb, ◌⊎◌, sym, subst, inl, inr}
use Rattle.std.proofs.lemmas.Bool.{cases_Bool, eqb-true, eqb-false}
use Rattle.sets.specs.Tests.{Says}

module _ {P : Type 0} (r : Bool) where
  pub says_yes : r ≡ true → P → Says r P
  says_yes e p = subst (λ (b : Bool). Says b P) (sym e) p

  pub says_no : r ≡ false → (P → ⊥) → Says r P
  says_no e h = subst (λ (b : Bool). Says b P) (sym e) h

-- a test of P is one of what holds just where P does
pub says_like : {P Q : Type 0} (r : Bool) → (P → Q) → (Q → P) → Says r P → Says r Q
says_like true f g p = f p
says_like false f g h = λ q. h (g q)

pub says_equal : (a b : ℕ) → Says (eqb a b) (a ≡ b)
says_equal a b = go (cases_Bool (eqb a b))
  where
    go : (eqb a b ≡ true) ⊎ (eqb a b ≡ false) → Says (eqb a b) (a ≡ b)
    go (inl e) = says_yes (eqb a b) e (eqb-true a b e)
    go (inr e) = says_no (eqb a b) e (eqb-false a b e)
