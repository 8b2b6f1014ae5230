-- What holds where its denial fails.
use Rattle.std.proofs.Common.{◌≡◌, ℕ, ◌≤◌, true, false, ◌⊎◌, inl, inr}
use Rattle.std.proofs.lemmas.Bool.{cases_Bool}
use Rattle.std.proofs.lemmas.Bool.Decides.{not_from_Decides}
use Rattle.task.proofs.Computed.{Test, t_le, holds}

abbrev pub Undenied : Type 0 → Type 0
Undenied P = (P → ⊥) → ⊥

abbrev pub Stable : Type 0 → Type 0
Stable P = Undenied P → P

-- whatever can be tested
pub stable_test : {P : Type 0} → Test P → Stable P
stable_test {P} t h = go (cases_Bool t.answer)
  where
    go : (t.answer ≡ true) ⊎ (t.answer ≡ false) → P
    go (inl e) = holds t e
    go (inr e) = absurd (h (not_from_Decides t.answer t.decides e))

pub stable_le : (m n : ℕ) → Stable (m ≤ n)
stable_le m n = stable_test (t_le m n)

pub stable_all : {A : Type 0} {P : A → Type 0} → ((x : A) → Stable (P x)) → Stable ((x : A) → P x)
stable_all s h x = s x (λ n. h (λ f. n (f x)))

-- a stable part of a whole that is not denied
pub part : {R A : Type 0} → Undenied R → (R → A) → Stable A → A
part h f s = s (λ n. h (λ r. n (f r)))
