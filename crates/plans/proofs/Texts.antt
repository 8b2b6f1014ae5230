-- The lines of a text, as they are read.
use Rattle.std.specs.Prelude.{codes}
use Rattle.std.proofs.Common.{◌≡◌, ℕ, ◌+◌, ◌<◌, ◌≤◌, false, eqb, ◌⊎◌, List, [], ◌∷◌, ◌++◌, length, drop, Ok, Err, Result, sym, refl, ap, ◌∙◌, subst, inl, inr, arith}
use lib.Utf8.{encode}
use Rattle.std.proofs.lemmas.List.{length-append, nil_from_length}
use Rattle.std.proofs.lemmas.Bool.{cases_eq, eqb-false}
use Rattle.std.proofs.lemmas.Str.{length-encode, len_utf8_bounds}
use Rattle.std.specs.Result.{IsErrAnd}
use Rattle.std.specs.Str.Lines.{IsFirstLine}
use Rattle.plans.specs.declared.draft.Draft.{Draft}
use Rattle.plans.specs.declared.plan.Flaw.{Flaw}
use Rattle.plans.specs.declared.plan.Flaw.TheVariants.{Expected, SlotTaken, Missing, NoMemory}
use Rattle.plans.specs.declared.plan.PlanText.{PlanText}
use Rattle.plans.specs.Drafts.{Drafted, Advances, Blamed, ReadsLine, Finishes}
use Rattle.plans.specs.Entries.{Placed, entries, HasSlot}
use Rattle.plans.specs.Lines.{LinesTo, Worded, Stated}
use Rattle.plans.specs.Parsed.{NamesSlot, TakesSlot, ReadTo, Parsed}
use Rattle.plans.specs.Statements.{Word, ToldTable, texts, Said, task, Makes}
use Rattle.plans.proofs.Gathering.{fitting_more}
use Rattle.plans.proofs.Spelled.{Slice}
use Rattle.plans.proofs.Unambiguous.{one_number, at}

-- words

pub some_words : (items : Slice) (len : ℕ) → len ≡ length items → false ≡ eqb len 0 → texts items ≡ [] → ⊥
some_words items len e f none = eqb-false len 0 (sym f) (e ∙ as_long items none)
  where
    as_long : (ws : Slice) → texts ws ≡ [] → length ws ≡ 0
    as_long [] h = refl
    as_long (w ∷ ws) h = let z : ◌≡◌ {A = ℕ} 0 1 = cc in absurd (omega arith)

-- the words of a task begin with its slot
named_slot : (words : List Word) (name : Word) (slot : ℕ) (t : ToldTable) → Makes words (task name slot t) → NamesSlot words slot
named_slot [] name slot t m = absurd m
named_slot (first ∷ ws) name slot t m = record {
  name = name;
  number = m.1.number;
  rest = m.1.rest;
  words_are = ap (λ (w : Word). w ∷ ws) m.0 ∙ ap (λ (l : List Word). codes "task" ∷ l) m.1.words_are;
  slot_said = m.1.slot_said;
}

-- no task begins in a slot that is taken, where the slot that the words name is free
pub slot_free : (ps : List Placed) (words : List Word) (slot : ℕ) → NamesSlot words slot → (HasSlot slot (entries ps) → ⊥)
    → (other : ℕ) → TakesSlot other ps words → ⊥
slot_free ps words slot n free other t =
    free (subst (λ (k : ℕ). HasSlot k (entries ps)) (one_number 15 15 _ _ other slot (at 3 _ _ (sym t.0.words_are ∙ n.words_are)) t.0.slot_said n.slot_said) t.1)

-- what is wrong with the words is wrong with their line
pub line_blamed : (ps : List Placed) (line : List ℕ) (number : ℕ) (words : List Word) (d : Draft) (flaw : Flaw) → Worded line words
    → Blamed ps words number flaw → ReadsLine ps line number d (Err flaw)
line_blamed ps line number words d (Expected at what) w b = (b.0, (words, w, b.1))
line_blamed ps line number words d (SlotTaken at slot) w b = (b.0, (words, w, b.1))
line_blamed ps line number words d (Missing what) w b = b
line_blamed ps line number words d NoMemory w b = absurd b

-- what a statement does to a draft, its line does
pub line_advances : (ps : List Placed) (line : List ℕ) (number : ℕ) (words : List Word) (s : Said) (d : Draft) (r : Result Unit Flaw)
    → Worded line words → Makes words s → Advances ps s number d r → ReadsLine ps line number d r
line_advances ps line number words s d (Ok x) w m a = inr (words, s, w, m, a.0, a.1)
line_advances ps line number words s d (Err (Expected at what)) w m a = (a.0, (words, w, inr (s, m, a.1, a.2)))
line_advances ps line number words s d (Err (SlotTaken at slot)) w m a =
    (a.0, (words, w, (named_slot words a.1.0 slot a.1.1 (subst (Makes words) a.1.2 m), a.2)))
line_advances ps line number words s d (Err (Missing what)) w m a = a
line_advances ps line number words s d (Err NoMemory) w m a = tt

-- lines

pub line_shorter : (rest line more : List ℕ) → 0 < length rest → IsFirstLine rest line more → length more < length rest
line_shorter rest line more some l = go (cases_eq l.0 0)
  where
    go : (l.0 ≡ 0) ⊎ (l.0 ≡ 0 → ⊥) → length more < length rest
    go (inl e) =
        let whole : drop l.0 rest ≡ rest = ap (λ (n : ℕ). drop n rest) e in
        let o = l.2 (omega (arith, ap length whole)) in
        omega (arith, ap length (sym whole ∙ o.2), length-append (encode o.0) more, length-encode o.0, (len_utf8_bounds o.0).0)
    go (inr d) = omega (arith, l.3)

lines_more : (text : List ℕ) (lines : List (List ℕ)) (rest line more : List ℕ) → LinesTo text lines rest → 0 < length rest → IsFirstLine rest line more
    → LinesTo text (lines ++ line ∷ []) more
lines_more text [] rest line more e some l =
    (more, subst (λ (t : List ℕ). 0 < length t) (sym e) some, subst (λ (t : List ℕ). IsFirstLine t line more) (sym e) l, refl)
lines_more text (x ∷ lines) rest line more h some l = (h.0, h.1, h.2, lines_more h.0 lines rest line more h.3 some l)

stated_blank : (n : ℕ) (lines : List (List ℕ)) (ps : List Placed) (line : List ℕ) → Stated n lines ps → Worded line [] → Stated n (lines ++ line ∷ []) ps
stated_blank n [] ps line s w = inl (w, s)
stated_blank n (x ∷ lines) ps line (inl (v, s)) w = inl (v, stated_blank (n + 1) lines ps line s w)
stated_blank n (x ∷ lines) ps line (inr (words, s, behind, v, m, e, st)) w = inr (words, s, behind, v, m, e, stated_blank (n + 1) lines behind line st w)

stated_more : (n at : ℕ) (lines : List (List ℕ)) (ps : List Placed) (line : List ℕ) (words : List Word) (s : Said) → at ≡ n + length lines
    → Stated n lines ps → Worded line words → Makes words s → Stated n (lines ++ line ∷ []) (ps ++ record { line = at; said = s } ∷ [])
stated_more n at [] ps line words s e none w m =
    inr (words, s, [], w, m, ap (λ (l : List Placed). l ++ record { line = at; said = s } ∷ []) none ∙ ap (λ (k : ℕ). record { line = k; said = s } ∷ []) here, refl)
  where
    here : at ≡ n
    here = omega arith
stated_more n at (x ∷ lines) ps line words s e (inl (v, st)) w m = inl (v, stated_more (n + 1) at lines ps line words s (omega arith) st w m)
stated_more n at (x ∷ lines) ps line words s e (inr (others, t, behind, v, k, f, st)) w m =
    inr (
      others,
      t,
      behind ++ record { line = at; said = s } ∷ [],
      v,
      k,
      ap (λ (l : List Placed). l ++ record { line = at; said = s } ∷ []) f,
      stated_more (n + 1) at lines behind line words s (omega arith) st w m,
    )

pub read_none : (text : List ℕ) → ReadTo text text 0 []
read_none text = record { lines = []; lines_are = refl; numbered = refl; stated = refl; fitting = tt }

-- what is known between two lines
pub record Reading (text rest : List ℕ) (number : ℕ) (d : Draft) : Type 0 where
  pub statements : List Placed
  pub read : ReadTo text rest number statements
  pub drafted : Drafted d statements
  pub few_lines : number + length rest ≤ length text

pub one_line_more : (text rest line more : List ℕ) (number : ℕ) (d e : Draft) → (k : Reading text rest number d) → 0 < length rest → IsFirstLine rest line more
    → ReadsLine k.statements line (number + 1) e (Ok tt) → Reading text more (number + 1) e
one_line_more text rest line more number d e k some l (inl (w, dr)) = record {
  statements = k.statements;
  read = record {
    lines = k.read.lines ++ line ∷ [];
    lines_are = lines_more text k.read.lines rest line more k.read.lines_are some l;
    numbered = omega (arith, k.read.numbered, length-append k.read.lines (line ∷ []));
    stated = stated_blank 1 k.read.lines k.statements line k.read.stated w;
    fitting = k.read.fitting;
  };
  drafted = dr;
  few_lines = omega (arith, k.few_lines, line_shorter rest line more some l);
}
one_line_more text rest line more number d e k some l (inr (words, s, w, m, fits, dr)) = record {
  statements = k.statements ++ record { line = number + 1; said = s } ∷ [];
  read = record {
    lines = k.read.lines ++ line ∷ [];
    lines_are = lines_more text k.read.lines rest line more k.read.lines_are some l;
    numbered = omega (arith, k.read.numbered, length-append k.read.lines (line ∷ []));
    stated = stated_more 1 (number + 1) k.read.lines k.statements line words s (omega (arith, k.read.numbered)) k.read.stated w m;
    fitting = fitting_more k.statements (record { line = number + 1; said = s }) k.read.fitting fits;
  };
  drafted = dr;
  few_lines = omega (arith, k.few_lines, line_shorter rest line more some l);
}

pub wrong_line : (text rest line more : List ℕ) (number : ℕ) (d e : Draft) (flaw : Flaw) → (k : Reading text rest number d) → 0 < length rest → IsFirstLine rest line more
    → ReadsLine k.statements line (number + 1) e (Err flaw) → Parsed text (Err flaw)
wrong_line text rest line more number d e (Expected at what) k some l h = record {
  statements = k.statements;
  rest = rest;
  before = number;
  read = k.read;
  is_next = h.0;
  line = line;
  more = more;
  some_line = some;
  line_is = l;
  words = h.1.0;
  words_are = h.1.1;
  wrong = h.1.2;
}
wrong_line text rest line more number d e (SlotTaken at slot) k some l h = record {
  statements = k.statements;
  rest = rest;
  before = number;
  read = k.read;
  is_next = h.0;
  line = line;
  more = more;
  some_line = some;
  line_is = l;
  words = h.1.0;
  words_are = h.1.1;
  wrong = h.1.2;
}
wrong_line text rest line more number d e (Missing what) k some l h = absurd h
wrong_line text rest line more number d e NoMemory k some l h = tt

pub told_on : (text : List ℕ) (r : Result PlanText Flaw) (flaw : Flaw) → IsErrAnd r (λ e. e ≡ flaw) → Parsed text (Err flaw) → Parsed text r
told_on text (Ok plan) flaw e p = absurd e
told_on text (Err other) flaw e p = subst (λ (x : Flaw). Parsed text (Err x)) (sym e) p

pub all_read : (text rest : List ℕ) (number : ℕ) (d : Draft) (r : Result PlanText Flaw) → (k : Reading text rest number d) → length rest ≡ 0
    → Finishes k.statements r → Parsed text r
all_read text rest number d r k none f = go r f
  where
    whole : ReadTo text [] number k.statements
    whole = subst (λ (t : List ℕ). ReadTo text t number k.statements) (nil_from_length rest none) k.read

    go : (r : Result PlanText Flaw) → Finishes k.statements r → Parsed text r
    go (Ok plan) h = record { statements = k.statements; number = number; read = whole; plan_of = h }
    go (Err (Expected at what)) h = absurd h
    go (Err (SlotTaken at slot)) h = absurd h
    go (Err (Missing what)) h = record { statements = k.statements; number = number; read = whole; lacks = h }
    go (Err NoMemory) h = tt
