-- The lines of a text, and the words of a line. Assumes nothing.
use Rattle.std.specs.Prelude.{◌≡◌, ℕ, ◌+◌, ◌<◌, ◌⊎◌, List, [], ◌∷◌, ◌++◌, length, ◌≢◌, slice_index}
use Rattle.std.specs.Str.Lines.{IsFirstLine}
use Rattle.std.specs.Char.{is_whitespace, is_not_whitespace}
use Rattle.std.specs.Str.{NoCharPasses, EmptyOrStartsWithPassing}
use Rattle.plans.specs.Statements.{Word, Said, Makes}
use Rattle.plans.specs.Entries.{Placed}

-- these are the first lines of the text, and the rest follows them
abbrev pub LinesTo : List ℕ → List (List ℕ) → List ℕ → Type 0
LinesTo text [] rest = text ≡ rest
LinesTo text (line ∷ lines) rest = (more : List ℕ) × (0 < length text) × IsFirstLine text line more × LinesTo more lines rest

abbrev pub hash : ℕ
hash = 35

-- a line without its comment: what stands before the first #, or all of it
pub record Uncommented (line code : List ℕ) : Type 0 where
  pub no_hash : (k : ℕ) → k < length code → slice_index code k ≢ hash
  pub before : (code ≡ line) ⊎ ((comment : List ℕ) × (line ≡ code ++ (hash ∷ comment)))

-- the words: the runs of characters that are not white space, each as long as it can be
abbrev pub WordsOf : List ℕ → List Word → Type 0
WordsOf text [] = NoCharPasses is_not_whitespace text
WordsOf text (w ∷ ws) =
    (gap : List ℕ) × (rest : List ℕ) × (text ≡ gap ++ (w ++ rest)) × (0 < length w) × NoCharPasses is_not_whitespace gap × NoCharPasses is_whitespace w
    × ((more : List ℕ) × EmptyOrStartsWithPassing is_whitespace rest more) × WordsOf rest ws

-- the words of a line
pub record Worded (line : List ℕ) (words : List Word) : Type 0 where
  pub code : List ℕ
  pub uncommented : Uncommented line code
  pub words_of : WordsOf code words

-- the lines make the statements, the first of them having this number: a line without words makes none, and any other makes one
abbrev pub Stated : ℕ → List (List ℕ) → List Placed → Type 0
Stated number [] ps = ps ≡ []
Stated number (line ∷ lines) ps =
    (Worded line [] × Stated (number + 1) lines ps)
    ⊎ ((words : List Word) × (s : Said) × (behind : List Placed) × Worded line words × Makes words s
    × (ps ≡ record { line = number; said = s } ∷ behind) × Stated (number + 1) lines behind)
