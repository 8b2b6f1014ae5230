-- A text that says a plan is told no flaw.
use Rattle.std.proofs.Common.{◌≡◌, ℕ, ◌+◌, ◌<◌, List, [], ◌∷◌, ◌++◌, length, Some, None, Option, sym, refl, ap, ◌∙◌, subst, inl, inr, arith}
use Rattle.std.proofs.lemmas.List.{append-nil, append_assoc}
use Rattle.std.specs.Str.Lines.{IsFirstLine}
use Rattle.plans.specs.declared.plan.Flaw.TheVariants.{Expected, SlotTaken, Missing, NoMemory}
use Rattle.plans.specs.declared.plan.Precedence.{Precedence}
use Rattle.plans.specs.Entries.{Placed, cores_in, order_in, last_said, entries, HasSlot, OpenTask, Fits, FitBehind, Fitting}
use Rattle.plans.specs.Lines.{LinesTo, Stated}
use Rattle.plans.specs.Parsed.{OfTable, NamesSlot, Unexpected, TakesSlot, ReadTo, WrongAt, LacksLine, NoFlaw}
use Rattle.plans.specs.Settings.{setting_line}
use Rattle.plans.specs.Statements.{Word, Said, cores, order, task, node, arc, Makes}
use Rattle.plans.proofs.OneText.{one_line, one_lines, one_worded, one_stated}
use Rattle.plans.proofs.Unambiguous.{one_number, at, byte, one_statement_lem}

-- the first lines of a text that is read whole
lines_split : (text : List ℕ) (ls ms : List (List ℕ)) (rest line more : List ℕ) → LinesTo text ls [] → LinesTo text ms rest → 0 < length rest → IsFirstLine rest line more
    → (ks : List (List ℕ)) × (ls ≡ ms ++ line ∷ ks)
lines_split text [] [] rest line more a b some l = absurd (omega (arith, ap length a, ap length b))
lines_split text (x ∷ ls) [] rest line more a b some l =
    (ls, ap (λ (z : List ℕ). z ∷ ls) (one_line rest x line a.0 more (subst (λ (t : List ℕ). IsFirstLine t x a.0) b a.2) l).0)
lines_split text [] (m ∷ ms) rest line more a b some l = absurd (omega (arith, ap length a, b.1))
lines_split text (x ∷ ls) (m ∷ ms) rest line more a b some l =
    let s = one_line text x m a.0 b.0 a.2 b.2 in
    let r = lines_split b.0 ls ms rest line more (subst (λ (t : List ℕ). LinesTo t ls []) s.1 a.3) b.3 some l in
    (r.0, ap (λ (z : List ℕ). z ∷ ls) s.0 ∙ ap (λ (z : List (List ℕ)). m ∷ z) r.1)

-- and their statements
stated_split : (n : ℕ) (ms : List (List ℕ)) (line : List ℕ) (ks : List (List ℕ)) (ps qs : List Placed) → Stated n (ms ++ line ∷ ks) ps → Stated n ms qs
    → (behind : List Placed) × (at : ℕ) × (ps ≡ qs ++ behind) × Stated at (line ∷ ks) behind
stated_split n [] line ks ps qs a b = (ps, n, ap (λ (l : List Placed). l ++ ps) (sym b), a)
stated_split n (m ∷ ms) line ks ps qs (inl (w, a)) (inl (v, b)) = stated_split (n + 1) ms line ks ps qs a b
stated_split n (m ∷ ms) line ks ps qs (inl (w, a)) (inr (words, s, left, v, k, e, b)) =
    absurd (subst (λ (l : List Word). Makes l s) (one_worded m words [] v w) k)
stated_split n (m ∷ ms) line ks ps qs (inr (words, s, left, v, k, e, a)) (inl (w, b)) =
    absurd (subst (λ (l : List Word). Makes l s) (one_worded m words [] v w) k)
stated_split n (m ∷ ms) line ks ps qs (inr (us, s, left, v, j, e, a)) (inr (vs, t, right, w, k, f, b)) =
    let same = one_statement_lem vs s t (subst (λ (l : List Word). Makes l s) (one_worded m us vs v w) j) k in
    let r = stated_split (n + 1) ms line ks left right a b in (
      r.0,
      r.1,
      e ∙ ap (λ (z : Said). record { line = n; said = z } ∷ left) same ∙ ap (λ (l : List Placed). record { line = n; said = t } ∷ l) r.2
          ∙ ap (λ (l : List Placed). l ++ r.0) (sym f),
      r.3,
    )

fits_at : (before qs : List Placed) (p : Placed) (more : List Placed) → FitBehind before (qs ++ p ∷ more) → Fits (before ++ qs) p.said
fits_at before [] p more f = subst (λ (l : List Placed). Fits l p.said) (sym (append-nil before)) f.0
fits_at before (q ∷ qs) p more f =
    subst (λ (l : List Placed). Fits l p.said) (append_assoc before (q ∷ []) qs) (fits_at (before ++ q ∷ []) qs p more f.1)

opened_by : (qs : List Placed) (s : Said) → OfTable s → Fits qs s → OpenTask qs
opened_by qs (cores n) o f = absurd o
opened_by qs (order x) o f = absurd o
opened_by qs (task name slot t) o f = absurd o
opened_by qs (node n) o f = f
opened_by qs (arc a) o f = f

-- what is wrong of a line with a statement that fits, or with none
abbrev Refuted : (List Placed → List Word → Type 0) → Type 0
Refuted Wrong = (qs : List Placed) (words : List Word) → Wrong qs words → (words ≡ [] → ⊥) × ((s : Said) → Makes words s → Fits qs s → ⊥)

unexpected : Refuted Unexpected
unexpected qs words (inl (some, none, free)) = (some, λ s m f. none s m)
unexpected qs words (inr (t, k, of-table, shut)) =
    (λ e. subst (λ (l : List Word). Makes l t) e k, λ s m f. shut (opened_by qs t of-table (subst (Fits qs) (one_statement_lem words s t m k) f)))

-- no statement that fits is made of words that begin a task in a taken slot
slot_barred : (slot : ℕ) (qs : List Placed) (words : List Word) → NamesSlot words slot → HasSlot slot (entries qs) → (s : Said) → Makes words s → Fits qs s → ⊥
slot_barred slot qs [] n has s m f = m
slot_barred slot qs (first ∷ ws) n has (cores x) m f = absurd (omega (arith, byte 0 _ _ (sym m.0 ∙ at 0 _ _ n.words_are)))
slot_barred slot qs (first ∷ ws) n has (order x) m f = absurd (omega (arith, byte 0 _ _ (sym m.0 ∙ at 0 _ _ n.words_are)))
slot_barred slot qs (first ∷ ws) n has (task name k t) m f =
    f (
    subst (λ (i : ℕ). HasSlot i (entries qs))
    (one_number 15 15 _ _ slot k (sym (at 3 _ _ n.words_are) ∙ at 2 _ _ m.1.words_are) n.slot_said m.1.slot_said) has
    )
slot_barred slot qs (first ∷ ws) n has (node x) m f = absurd (omega (arith, byte 0 _ _ (sym m.0 ∙ at 0 _ _ n.words_are)))
slot_barred slot qs (first ∷ ws) n has (arc x) m f = absurd (omega (arith, byte 0 _ _ (sym m.0 ∙ at 0 _ _ n.words_are)))

slot_taken : (slot : ℕ) → Refuted (TakesSlot slot)
slot_taken slot qs words (n, has) = (λ e. absurd (omega (arith, ap length (sym e ∙ n.words_are))), slot_barred slot qs words n has)

not_wrong : (text : List ℕ) (number n : ℕ) (ps : List Placed) (Wrong : List Placed → List Word → Type 0) → Refuted Wrong
    → ReadTo text [] number ps → WrongAt text n Wrong → ⊥
not_wrong text number n ps Wrong refuted whole w =
    let lines = lines_split text whole.lines w.read.lines w.rest w.line w.more whole.lines_are w.read.lines_are w.some_line w.line_is in
    let r = stated_split 1 w.read.lines w.line lines.0 ps w.statements
    (subst (λ (ls : List (List ℕ)). Stated 1 ls ps) lines.1 whole.stated) w.read.stated in
    go r.0 r.1 lines.0 (subst Fitting r.2 whole.fitting) r.3
  where
    go : (behind : List Placed) (at : ℕ) (ks : List (List ℕ)) → Fitting (w.statements ++ behind) → Stated at (w.line ∷ ks) behind → ⊥
    go behind at ks f (inl (blank, st)) = (refuted w.statements w.words w.wrong).0 (one_worded w.line w.words [] w.words_are blank)
    go behind at ks f (inr (words, s, after, v, m, e, st)) =
        (refuted w.statements w.words w.wrong).1 s (subst (λ (l : List Word). Makes l s) (one_worded w.line words w.words v w.words_are) m)
        (fits_at [] w.statements (record { line = at; said = s }) after (subst (λ (l : List Placed). Fitting (w.statements ++ l)) e f))

some_not_none : {A : Type 0} {o : Option A} {x : A} → o ≡ Some x → o ≡ None → ⊥
some_not_none e f = let z : ◌≡◌ {A = ℕ} 0 1 = cc in omega arith

not_lacking : (ps : List Placed) (what : Word) (c : ℕ) → last_said cores_in ps ≡ Some c → ((x : Precedence) × (last_said order_in ps ≡ Some x)) → LacksLine ps what → ⊥
not_lacking ps what c e o (inl (t, none)) = some_not_none e none
not_lacking ps what c e o (inr (t, some, none)) = some_not_none o.1 none

pub no_flaw_lem : NoFlaw
no_flaw_lem text p (Expected line what) a w = absurd (not_wrong text a.number line a.statements Unexpected unexpected a.read w)
no_flaw_lem text p (SlotTaken line slot) a w = absurd (not_wrong text a.number line a.statements (TakesSlot slot) (slot_taken slot) a.read w)
no_flaw_lem text p (Missing what) a w =
    let lines = one_lines text a.read.lines w.read.lines a.read.lines_are w.read.lines_are in
    let same = one_stated 1 w.read.lines a.statements w.statements
    (subst (λ (ls : List (List ℕ)). Stated 1 ls a.statements) lines a.read.stated) w.read.stated in
    absurd (
    not_lacking w.statements (setting_line what) p.cores (ap (last_said cores_in) (sym same) ∙ a.plan_of.cores_are)
    (p.order, ap (last_said order_in) (sym same) ∙ a.plan_of.order_is) w.lacks
    )
no_flaw_lem text p NoMemory a w = refl
