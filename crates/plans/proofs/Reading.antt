-- The words of a line, as they are read.
use Rattle.std.proofs.lemmas.Iterator.{IsCollectResult}
use Rattle.std.specs.declared.alloc.Global.{Global}
use Rattle.std.proofs.Common.{Option, None, Some, MatchOption, Ok, Err, Result, Vec, IfOk, vec_items, ◌≡◌, ℕ, ◌<◌, eqb, List, [], ◌∷◌, ◌++◌, length, get_or, take, drop, sym, refl, ap, ◌∙◌, subst, inl, inr, arith, Bor}
use Rattle.std.proofs.lemmas.List.{take-append-drop}
use Rattle.std.proofs.lemmas.Bool.{eqb-false}
use Rattle.std.proofs.lemmas.Str.{NoCharPasses-byte, encode_ascii}
use Rattle.std.specs.Str.Pattern.{HasCharAt}
use Rattle.std.specs.Char.{is_not_whitespace}
use Rattle.std.specs.Iterator.{Yields}
use Rattle.std.specs.declared.str.SplitWhitespace.{SplitWhitespace}
use Rattle.std.specs.Str.Iter.{split_whitespace_rest, split_whitespace_steps}
use Rattle.std.specs.Str.{NoCharPasses}
use Rattle.plans.specs.Lines.{hash, Uncommented, WordsOf}
use Rattle.plans.specs.Statements.{texts}
use Rattle.plans.proofs.Spelled.{Slice}

-- a text without a # has none among its bytes
no_hash_in : (code : List ℕ) → NoCharPasses (λ d. eqb d hash) code → (k : ℕ) → k < length code → get_or code k 0 ≡ hash → ⊥
no_hash_in code w k l e = eqb-false (get_or code k 0) hash (NoCharPasses-byte (λ d. eqb d hash) code k w l (omega arith)) e

pub without_comment : (line : List ℕ) → NoCharPasses (λ d. eqb d hash) line → Uncommented line line
without_comment line w = record { no_hash = no_hash_in line w; before = inl refl }

pub before_comment : (line code : List ℕ) (i j : ℕ) → NoCharPasses (λ d. eqb d hash) (take i line) → HasCharAt hash line i j → code ≡ take i line → Uncommented line code
before_comment line code i j w at e =
    subst (Uncommented line) (sym e) (record {
      no_hash = no_hash_in (take i line) w;
      before = inr (
        drop j line,
        sym (take-append-drop i line) ∙ ap (λ (l : List ℕ). take i line ++ l) (at.split ∙ ap (λ (l : List ℕ). l ++ drop j line) (encode_ascii hash (omega arith))),
      );
    })

-- the words that are taken one by one, up to a rest without any
pub words_taken : (xs : Slice) (s t : SplitWhitespace) → Yields split_whitespace_steps s xs t → NoCharPasses is_not_whitespace (split_whitespace_rest t)
    → WordsOf (split_whitespace_rest s) (texts xs)
words_taken [] s t y none = subst (λ (z : SplitWhitespace). NoCharPasses is_not_whitespace (split_whitespace_rest z)) (sym y) none
words_taken (x ∷ xs) s t (j, k, y) none = (k.0, split_whitespace_rest j, k.1, k.2, k.3, k.4, k.5, words_taken xs j t y none)

pub words_collected : (code : List ℕ) (s : SplitWhitespace) {E : Type 0} (r : Result (Vec (Bor (List ℕ)) Global) E) → split_whitespace_rest s ≡ code
    → IsCollectResult split_whitespace_steps s r → IfOk r (λ v. WordsOf code (texts (vec_items v)))
words_collected code s (Ok v) e (xs, (t, y, ends), (items, len)) =
    let last = ends tt in
    subst (λ (ws : Slice). WordsOf code (texts ws)) (sym items) (subst (λ (b : List ℕ). WordsOf b (texts xs)) e (words_taken xs s t y last.1.1))
words_collected code s (Err x) e h = tt

pub uncommented : (line code : List ℕ) (o : Option (Bor (List ℕ) × Bor (List ℕ)))
    → MatchOption o (NoCharPasses (λ d. eqb d hash) line)
    (λ x. (i : ℕ) × (j : ℕ) × NoCharPasses (λ d. eqb d hash) (take i line) × HasCharAt hash line i j × (x.0.now ≡ take i line))
    → MatchOption o (code ≡ line) (λ x. code ≡ x.0.now) → Uncommented line code
uncommented line code None none e = subst (Uncommented line) (sym e) (without_comment line none)
uncommented line code (Some x) (i, j, none, at, is) e = before_comment line code i j none at (e ∙ is)
