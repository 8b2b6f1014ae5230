-- The words of a slice, one by one.
use Rattle.std.proofs.Common.{◌≡◌, ℕ, ◌-◌, ◌≤◌, List, [], ◌∷◌, length, get_or, take, drop, sym, refl, ap, arith, Bor}
use Rattle.std.proofs.lemmas.List.{take_rest}
use Rattle.plans.specs.Statements.{Word, texts}

abbrev pub Slice : Type 0
Slice = List (Bor (List ℕ))

-- what stands where there is no word
abbrev pub no_word : Bor (List ℕ)
no_word = record { ref_ptr = (0, 0); now = [] }

abbrev pub nth : Slice → ℕ → Word
nth ws k = (get_or ws k no_word).now

-- the words behind the first n
abbrev pub behind : Slice → ℕ → List Word
behind ws n = texts (take (length ws - n) (drop n ws))

pub length_texts : (ws : Slice) → length (texts ws) ≡ length ws
length_texts [] = refl
length_texts (w ∷ ws) = omega (arith, length_texts ws)

pub spelled_0 : (ws : Slice) → length ws ≡ 0 → texts ws ≡ []
spelled_0 [] e = refl
spelled_0 (a ∷ ws) e = absurd (omega arith)

pub spelled_1 : (ws : Slice) → length ws ≡ 1 → texts ws ≡ nth ws 0 ∷ []
spelled_1 [] e = absurd (omega arith)
spelled_1 (a ∷ []) e = refl
spelled_1 (a ∷ b ∷ ws) e = absurd (omega arith)

pub spelled_2 : (ws : Slice) → length ws ≡ 2 → texts ws ≡ nth ws 0 ∷ nth ws 1 ∷ []
spelled_2 [] e = absurd (omega arith)
spelled_2 (a ∷ ws) e = ap (λ (l : List Word). a.now ∷ l) (spelled_1 ws (omega arith))

pub spelled_4 : (ws : Slice) → length ws ≡ 4 → texts ws ≡ nth ws 0 ∷ nth ws 1 ∷ nth ws 2 ∷ nth ws 3 ∷ []
spelled_4 [] e = absurd (omega arith)
spelled_4 (a ∷ []) e = absurd (omega arith)
spelled_4 (a ∷ b ∷ ws) e = ap (λ (l : List Word). a.now ∷ b.now ∷ l) (spelled_2 ws (omega arith))

pub opened_1 : (ws : Slice) → 1 ≤ length ws → texts ws ≡ nth ws 0 ∷ behind ws 1
opened_1 [] l = absurd (omega arith)
opened_1 (a ∷ ws) l = ap (λ (v : Slice). a.now ∷ texts v) (sym (take_rest (a ∷ ws) 1))

pub opened_2 : (ws : Slice) → 2 ≤ length ws → texts ws ≡ nth ws 0 ∷ nth ws 1 ∷ behind ws 2
opened_2 [] l = absurd (omega arith)
opened_2 (a ∷ []) l = absurd (omega arith)
opened_2 (a ∷ b ∷ ws) l = ap (λ (v : Slice). a.now ∷ b.now ∷ texts v) (sym (take_rest (a ∷ b ∷ ws) 2))

pub opened_3 : (ws : Slice) → 3 ≤ length ws → texts ws ≡ nth ws 0 ∷ nth ws 1 ∷ nth ws 2 ∷ behind ws 3
opened_3 [] l = absurd (omega arith)
opened_3 (a ∷ []) l = absurd (omega arith)
opened_3 (a ∷ b ∷ []) l = absurd (omega arith)
opened_3 (a ∷ b ∷ x ∷ ws) l = ap (λ (v : Slice). a.now ∷ b.now ∷ x.now ∷ texts v) (sym (take_rest (a ∷ b ∷ x ∷ ws) 3))

pub opened_4 : (ws : Slice) → 4 ≤ length ws → texts ws ≡ nth ws 0 ∷ nth ws 1 ∷ nth ws 2 ∷ nth ws 3 ∷ behind ws 4
opened_4 [] l = absurd (omega arith)
opened_4 (a ∷ []) l = absurd (omega arith)
opened_4 (a ∷ b ∷ []) l = absurd (omega arith)
opened_4 (a ∷ b ∷ x ∷ []) l = absurd (omega arith)
opened_4 (a ∷ b ∷ x ∷ y ∷ ws) l = ap (λ (v : Slice). a.now ∷ b.now ∷ x.now ∷ y.now ∷ texts v) (sym (take_rest (a ∷ b ∷ x ∷ y ∷ ws) 4))
