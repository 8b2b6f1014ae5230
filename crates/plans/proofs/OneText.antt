-- A text has one sequence of lines, and a line one sequence of words.
use Rattle.std.proofs.Common.{◌≡◌, ℕ, suc, ◌+◌, ◌-◌, ◌<◌, ◌≤◌, Bool, true, false, not, ◌⊎◌, List, [], ◌∷◌, ◌++◌, length, get_or, take, drop, Some, sym, refl, ap, ◌∙◌, subst, inl, inr, add-zero, arith}
use lib.Utf8.{encode, encodes}
use Rattle.std.proofs.lemmas.List.{append_assoc, length-append, length-take, length-drop, get_or-take, get_or-drop, get_or_at, nil_from_length, same_from_push}
use Rattle.std.proofs.lemmas.Bool.{cases_lt, eqb-true, eqb-false}
use Rattle.std.proofs.lemmas.Str.{NoCharPasses-byte, encode_ascii, encode_same, length-encode, len_utf8_bounds}
use Rattle.std.specs.Str.Lines.{IsFirstLine, StripsCarriageReturn}
use Rattle.std.specs.Char.{is_whitespace, is_not_whitespace, is_newline}
use Rattle.std.specs.Str.{NonePass, NoCharPasses, EmptyOrStartsWithPassing}
use Rattle.plans.specs.Lines.{hash, Uncommented, WordsOf, Worded, LinesTo, Stated}
use Rattle.plans.specs.Entries.{Placed, cores_in, order_in, last_said, entries}
use Rattle.plans.specs.Parsed.{OnePlan}
use Rattle.plans.specs.Statements.{Word, Said, Makes}
use Rattle.plans.proofs.Unambiguous.{one_statement_lem}

-- words

clash : {A : Type 0} → true ≡ false → A
clash e = let z : ◌≡◌ {A = ℕ} 0 1 = cc in absurd (omega arith)

not_dark : (c : ℕ) → is_not_whitespace c ≡ false → is_whitespace c ≡ true
not_dark c e = go (is_whitespace c) e
  where
    go : (b : Bool) → not b ≡ false → b ≡ true
    go true h = refl
    go false h = clash h

some_char : (c : ℕ) (bs : List ℕ) → encode c ++ bs ≡ [] → ⊥
some_char c bs e = omega (arith, ap length e, length-append (encode c) bs, length-encode c, (len_utf8_bounds c).0)

-- the same text behind runs of white characters, before a character that is dark
same_behind : (gs hs : List ℕ) (c d : ℕ) (xs ys : List ℕ) → NonePass is_not_whitespace gs → NonePass is_not_whitespace hs → is_whitespace c ≡ false → is_whitespace d ≡ false
    → encodes gs ++ (encode c ++ xs) ≡ encodes hs ++ (encode d ++ ys) → encode c ++ xs ≡ encode d ++ ys
same_behind [] [] c d xs ys f g p q e = e
same_behind [] (h ∷ hs) c d xs ys f g p q e =
    let s = encode_same c h xs (encodes hs ++ (encode d ++ ys)) (e ∙ append_assoc (encode h) (encodes hs) (encode d ++ ys)) in
    clash (sym (not_dark h g.0) ∙ ap is_whitespace (sym s.0) ∙ p)
same_behind (k ∷ gs) [] c d xs ys f g p q e =
    let s = encode_same k d (encodes gs ++ (encode c ++ xs)) ys (sym (append_assoc (encode k) (encodes gs) (encode c ++ xs)) ∙ e) in
    clash (sym (not_dark k f.0) ∙ ap is_whitespace s.0 ∙ q)
same_behind (k ∷ gs) (h ∷ hs) c d xs ys f g p q e =
    let s = encode_same k h (encodes gs ++ (encode c ++ xs)) (encodes hs ++ (encode d ++ ys))
    (sym (append_assoc (encode k) (encodes gs) (encode c ++ xs)) ∙ e ∙ append_assoc (encode h) (encodes hs) (encode d ++ ys)) in
    same_behind gs hs c d xs ys f.1 g.1 p q s.1

-- runs of dark characters, each before white space or the end
same_run : (ws vs : List ℕ) (r q m n : List ℕ) → NonePass is_whitespace ws → NonePass is_whitespace vs → EmptyOrStartsWithPassing is_whitespace r m → EmptyOrStartsWithPassing is_whitespace q n
    → encodes ws ++ r ≡ encodes vs ++ q → (encodes ws ≡ encodes vs) × (r ≡ q)
same_run [] [] r q m n f g o p e = (refl, e)
same_run [] (v ∷ vs) r q m n f g o p e =
    let begins : r ≡ encode v ++ (encodes vs ++ q) = e ∙ append_assoc (encode v) (encodes vs) q in
    let w = o (omega (arith, ap length begins, length-append (encode v) (encodes vs ++ q), length-encode v, (len_utf8_bounds v).0)) in
    let s = encode_same w.0 v m (encodes vs ++ q) (sym w.2 ∙ begins) in
    clash (sym w.1 ∙ ap is_whitespace s.0 ∙ g.0)
same_run (w ∷ ws) [] r q m n f g o p e =
    let begins : q ≡ encode w ++ (encodes ws ++ r) = sym e ∙ append_assoc (encode w) (encodes ws) r in
    let v = p (omega (arith, ap length begins, length-append (encode w) (encodes ws ++ r), length-encode w, (len_utf8_bounds w).0)) in
    let s = encode_same v.0 w n (encodes ws ++ r) (sym v.2 ∙ begins) in
    clash (sym v.1 ∙ ap is_whitespace s.0 ∙ f.0)
same_run (w ∷ ws) (v ∷ vs) r q m n f g o p e =
    let s = encode_same w v (encodes ws ++ r) (encodes vs ++ q) (sym (append_assoc (encode w) (encodes ws) r) ∙ e ∙ append_assoc (encode v) (encodes vs) q) in
    let t = same_run ws vs r q m n f.1 g.1 o p s.1 in
    (ap (λ (x : ℕ). encode x ++ encodes ws) s.0 ∙ ap (λ (l : List ℕ). encode v ++ l) t.0, t.1)

-- a text of white characters alone has no word
no_word : (cs gs : List ℕ) (d : ℕ) (ys : List ℕ) → NonePass is_not_whitespace cs → NonePass is_not_whitespace gs → is_whitespace d ≡ false → encodes cs ≡ encodes gs ++ (encode d ++ ys) → ⊥
no_word [] [] d ys f g q e = some_char d ys (sym e)
no_word [] (h ∷ gs) d ys f g q e = some_char h (encodes gs ++ (encode d ++ ys)) (sym (append_assoc (encode h) (encodes gs) (encode d ++ ys)) ∙ sym e)
no_word (c ∷ cs) [] d ys f g q e =
    let s = encode_same c d (encodes cs) ys e in
    clash (sym (not_dark c f.0) ∙ ap is_whitespace s.0 ∙ q)
no_word (c ∷ cs) (h ∷ gs) d ys f g q e =
    let s = encode_same c h (encodes cs) (encodes gs ++ (encode d ++ ys)) (e ∙ append_assoc (encode h) (encodes gs) (encode d ++ ys)) in
    no_word cs gs d ys f.1 g.1 q s.1

-- a run that is not empty, by its first character
first_dark : (w : Word) → 0 < length w → NoCharPasses is_whitespace w → (c : ℕ) × (cs : List ℕ) × (w ≡ encode c ++ encodes cs) × (is_whitespace c ≡ false) × NonePass is_whitespace cs
first_dark w l ([], e, f) = absurd (omega (arith, ap length e))
first_dark w l (c ∷ cs, e, f) = (c, cs, sym e, f.0, f.1)

pub one_words : (text : List ℕ) (us vs : List Word) → WordsOf text us → WordsOf text vs → us ≡ vs
one_words text [] [] a b = refl
one_words text [] (v ∷ vs) a b = absurd (wordless text v vs a b)
  where
    wordless : (text : List ℕ) (v : Word) (vs : List Word) → NoCharPasses is_not_whitespace text → WordsOf text (v ∷ vs) → ⊥
    wordless text v vs a b =
        let d = first_dark v b.3 b.5 in
        no_word a.0 b.4.0 d.0 (encodes d.1 ++ b.1) a.2 b.4.2 d.3
        (a.1 ∙ b.2 ∙ ap (λ (l : List ℕ). l ++ (v ++ b.1)) (sym b.4.1) ∙ ap (λ (l : List ℕ). encodes b.4.0 ++ (l ++ b.1)) d.2
        ∙ ap (λ (l : List ℕ). encodes b.4.0 ++ l) (append_assoc (encode d.0) (encodes d.1) b.1))
one_words text (u ∷ us) [] a b = sym (one_words_back text u us a b)
  where
    one_words_back : (text : List ℕ) (v : Word) (vs : List Word) → WordsOf text (v ∷ vs) → NoCharPasses is_not_whitespace text → [] ≡ v ∷ vs
    one_words_back text v vs b a =
        let d = first_dark v b.3 b.5 in
        absurd (no_word a.0 b.4.0 d.0 (encodes d.1 ++ b.1) a.2 b.4.2 d.3
        (a.1 ∙ b.2 ∙ ap (λ (l : List ℕ). l ++ (v ++ b.1)) (sym b.4.1) ∙ ap (λ (l : List ℕ). encodes b.4.0 ++ (l ++ b.1)) d.2
        ∙ ap (λ (l : List ℕ). encodes b.4.0 ++ l) (append_assoc (encode d.0) (encodes d.1) b.1)))
one_words text (u ∷ us) (v ∷ vs) a b =
    let c = first_dark u a.3 a.5 in
    let d = first_dark v b.3 b.5 in
    let whole : encodes a.4.0 ++ (u ++ a.1) ≡ encodes b.4.0 ++ (v ++ b.1) =
    ap (λ (l : List ℕ). l ++ (u ++ a.1)) a.4.1 ∙ sym a.2 ∙ b.2 ∙ ap (λ (l : List ℕ). l ++ (v ++ b.1)) (sym b.4.1) in
    let left : u ++ a.1 ≡ encode c.0 ++ (encodes c.1 ++ a.1) =
    ap (λ (l : List ℕ). l ++ a.1) c.2 ∙ append_assoc (encode c.0) (encodes c.1) a.1 in
    let right : v ++ b.1 ≡ encode d.0 ++ (encodes d.1 ++ b.1) =
    ap (λ (l : List ℕ). l ++ b.1) d.2 ∙ append_assoc (encode d.0) (encodes d.1) b.1 in
    let same = same_behind a.4.0 b.4.0 c.0 d.0 (encodes c.1 ++ a.1) (encodes d.1 ++ b.1) a.4.2 b.4.2 c.3 d.3
    (ap (λ (l : List ℕ). encodes a.4.0 ++ l) (sym left) ∙ whole ∙ ap (λ (l : List ℕ). encodes b.4.0 ++ l) right) in
    let run = same_run a.5.0 b.5.0 a.1 b.1 a.6.0 b.6.0 a.5.2 b.5.2 a.6.1 b.6.1
    (ap (λ (l : List ℕ). l ++ a.1) a.5.1 ∙ left ∙ same ∙ sym right ∙ ap (λ (l : List ℕ). l ++ b.1) (sym b.5.1)) in
    ap (λ (w : Word). w ∷ us) (sym a.5.1 ∙ run.0 ∙ b.5.1)
    ∙ ap (λ (l : List Word). v ∷ l) (one_words b.1 us vs (subst (λ (t : List ℕ). WordsOf t us) run.1 a.7) b.7)

-- comments

same_before : (a b c d : List ℕ) → ((k : ℕ) → k < length a → get_or a k 0 ≡ hash → ⊥) → ((k : ℕ) → k < length b → get_or b k 0 ≡ hash → ⊥)
    → a ++ (hash ∷ c) ≡ b ++ (hash ∷ d) → a ≡ b
same_before [] [] c d f g e = refl
same_before [] (y ∷ b) c d f g e = absurd (g 0 (omega arith) (sym (ap (λ (l : List ℕ). get_or l 0 0) e)))
same_before (x ∷ a) [] c d f g e = absurd (f 0 (omega arith) (ap (λ (l : List ℕ). get_or l 0 0) e))
same_before (x ∷ a) (y ∷ b) c d f g e =
    ap (λ (z : ℕ). z ∷ a) (ap (λ (l : List ℕ). get_or l 0 0) e)
    ∙ ap (λ (l : List ℕ). y ∷ l) (
    same_before a b c d (λ k l h. f (suc k) (omega arith) h) (λ k l h. g (suc k) (omega arith) h) (ap (λ (l : List ℕ). drop 1 l) e)
    )

hash_inside : (a b c : List ℕ) → ((k : ℕ) → k < length a → get_or a k 0 ≡ hash → ⊥) → a ≡ b ++ (hash ∷ c) → ⊥
hash_inside a b c f e =
    f (length b) (omega (arith, ap length e, length-append b (hash ∷ c))) (ap (λ (l : List ℕ). get_or l (length b) 0) e ∙ get_or_at b hash c 0 (length b) refl)

one_code : (line a b : List ℕ) → Uncommented line a → Uncommented line b → a ≡ b
one_code line a b u v = go u.before v.before
  where
    go : (a ≡ line) ⊎ ((c : List ℕ) × (line ≡ a ++ (hash ∷ c))) → (b ≡ line) ⊎ ((c : List ℕ) × (line ≡ b ++ (hash ∷ c))) → a ≡ b
    go (inl e) (inl f) = e ∙ sym f
    go (inl e) (inr (c, f)) = absurd (hash_inside a b c u.no_hash (e ∙ f))
    go (inr (c, e)) (inl f) = absurd (hash_inside b a c v.no_hash (f ∙ e))
    go (inr (c, e)) (inr (d, f)) = same_before a b c d u.no_hash v.no_hash (sym e ∙ f)

pub one_worded : (line : List ℕ) (us vs : List Word) → Worded line us → Worded line vs → us ≡ vs
one_worded line us vs a b =
    one_words b.code us vs (subst (λ (t : List ℕ). WordsOf t us) (one_code line a.code b.code a.uncommented b.uncommented) a.words_of) b.words_of

-- lines

one_unreturned : (l x y : List ℕ) → StripsCarriageReturn l x → StripsCarriageReturn l y → x ≡ y
one_unreturned l x y (inl a) (inl b) = a.0 ∙ sym b.0
one_unreturned l x y (inl a) (inr b) = absurd (returned l x y a b)
  where
    returned : (l x y : List ℕ) → (x ≡ l) × (0 < length l → get_or l (length l - 1) 0 ≡ 13 → ⊥) → l ≡ y ++ (13 ∷ []) → ⊥
    returned l x y a b =
        let long : length l ≡ length y + 1 = ap length b ∙ length-append y (13 ∷ []) in
        a.1 (omega arith) (ap (λ (v : List ℕ). get_or v (length l - 1) 0) b ∙ get_or_at y 13 [] 0 (length l - 1) (omega arith))
one_unreturned l x y (inr a) (inl b) = absurd (returned l y x b a)
  where
    returned : (l x y : List ℕ) → (x ≡ l) × (0 < length l → get_or l (length l - 1) 0 ≡ 13 → ⊥) → l ≡ y ++ (13 ∷ []) → ⊥
    returned l x y a b =
        let long : length l ≡ length y + 1 = ap length b ∙ length-append y (13 ∷ []) in
        a.1 (omega arith) (ap (λ (v : List ℕ). get_or v (length l - 1) 0) b ∙ get_or_at y 13 [] 0 (length l - 1) (omega arith))
one_unreturned l x y (inr a) (inr b) = (same_from_push x y 13 13 (sym a ∙ b)).0

-- a newline follows the line, if anything does
newline_at : (w x r : List ℕ) (l : IsFirstLine w x r) → l.0 < length w → (drop l.0 w ≡ 10 ∷ r) × (get_or w l.0 0 ≡ 10)
newline_at w x r l i =
    let o = l.2 (omega (arith, length-drop l.0 w)) in
    let ten : o.0 ≡ 10 = eqb-true o.0 10 o.1 in
    let begins : drop l.0 w ≡ 10 ∷ r = o.2 ∙ ap (λ (c : ℕ). encode c ++ r) ten ∙ ap (λ (b : List ℕ). b ++ r) (encode_ascii 10 (omega arith)) in
    (begins, ap (λ (k : ℕ). get_or w k 0) (sym (add-zero l.0)) ∙ sym (get_or-drop l.0 w 0 0) ∙ ap (λ (b : List ℕ). get_or b 0 0) begins)

-- no newline is in the line
not_before : (w x y r s : List ℕ) (l : IsFirstLine w x r) (k : IsFirstLine w y s) → k.0 < l.0 → ⊥
not_before w x y r s l k i =
    let there : k.0 < length w = omega (arith, l.3) in
    let ten = (newline_at w y s k there).1 in
    let same : get_or (take l.0 w) k.0 0 ≡ 10 = get_or-take l.0 w k.0 0 i ∙ ten in
    eqb-false (get_or (take l.0 w) k.0 0) 10
    (NoCharPasses-byte is_newline (take l.0 w) k.0 l.1 (omega (arith, length-take l.0 w)) (omega arith)) same

pub one_line : (w x y r s : List ℕ) → IsFirstLine w x r → IsFirstLine w y s → (x ≡ y) × (r ≡ s)
one_line w x y r s l k = go (cases_lt l.0 k.0) (cases_lt k.0 l.0) (cases_lt l.0 (length w))
  where
    go : (l.0 < k.0) ⊎ (k.0 ≤ l.0) → (k.0 < l.0) ⊎ (l.0 ≤ k.0) → (l.0 < length w) ⊎ (length w ≤ l.0) → (x ≡ y) × (r ≡ s)
    go (inl i) b c = absurd (not_before w y x s r k l i)
    go (inr i) (inl j) c = absurd (not_before w x y r s l k j)
    go (inr i) (inr j) (inl c) =
        let e : l.0 ≡ k.0 = omega arith in
        let a = (newline_at w x r l c).0 in
        let b = (newline_at w y s k (omega arith)).0 in (
          one_unreturned (take k.0 w) x y (subst (λ (n : ℕ). StripsCarriageReturn (take n w) x) e (l.5 c)) (k.5 (omega arith)),
          ap (λ (v : List ℕ). drop 1 v) (sym a ∙ ap (λ (n : ℕ). drop n w) e ∙ b),
        )
    go (inr i) (inr j) (inr c) = (
      l.4 (omega (arith, l.3)) ∙ sym (k.4 (omega (arith, k.3))),
      nil_from_length r (omega (arith, l.3)) ∙ sym (nil_from_length s (omega (arith, k.3))),
    )

pub one_lines : (text : List ℕ) (ls ms : List (List ℕ)) → LinesTo text ls [] → LinesTo text ms [] → ls ≡ ms
one_lines text [] [] a b = refl
one_lines text [] (m ∷ ms) a b = absurd (omega (arith, ap length a, b.1))
one_lines text (l ∷ ls) [] a b = absurd (omega (arith, ap length b, a.1))
one_lines text (l ∷ ls) (m ∷ ms) a b =
    let s = one_line text l m a.0 b.0 a.2 b.2 in
    ap (λ (x : List ℕ). x ∷ ls) s.0
    ∙ ap (λ (x : List (List ℕ)). m ∷ x) (one_lines b.0 ls ms (subst (λ (t : List ℕ). LinesTo t ls []) s.1 a.3) b.3)

pub one_stated : (n : ℕ) (lines : List (List ℕ)) (ps qs : List Placed) → Stated n lines ps → Stated n lines qs → ps ≡ qs
one_stated n [] ps qs a b = a ∙ sym b
one_stated n (x ∷ lines) ps qs (inl (w, a)) (inl (v, b)) = one_stated (n + 1) lines ps qs a b
one_stated n (x ∷ lines) ps qs (inl (w, a)) (inr (words, s, behind, v, m, e, b)) =
    absurd (subst (λ (l : List Word). Makes l s) (one_worded x words [] v w) m)
one_stated n (x ∷ lines) ps qs (inr (words, s, behind, v, m, e, a)) (inl (w, b)) =
    absurd (subst (λ (l : List Word). Makes l s) (one_worded x words [] v w) m)
one_stated n (x ∷ lines) ps qs (inr (us, s, left, v, m, e, a)) (inr (vs, t, right, w, k, f, b)) =
    let same = one_statement_lem vs s t (subst (λ (l : List Word). Makes l s) (one_worded x us vs v w) m) k in
    e ∙ ap (λ (z : Said). record { line = n; said = z } ∷ left) same
    ∙ ap (λ (l : List Placed). record { line = n; said = t } ∷ l) (one_stated (n + 1) lines left right a b) ∙ sym f

pub one_plan_lem : OnePlan
one_plan_lem text p q a b =
    let lines = one_lines text a.read.lines b.read.lines a.read.lines_are b.read.lines_are in
    let same = one_stated 1 b.read.lines a.statements b.statements
    (subst (λ (ls : List (List ℕ)). Stated 1 ls a.statements) lines a.read.stated) b.read.stated in
    record {
      cores_same = some_same (sym a.plan_of.cores_are ∙ ap (last_said cores_in) same ∙ b.plan_of.cores_are);
      order_same = some_same (sym a.plan_of.order_is ∙ ap (last_said order_in) same ∙ b.plan_of.order_is);
      entries_same = a.plan_of.entries_are ∙ ap entries same ∙ sym b.plan_of.entries_are;
    }
  where
    some_same : {A : Type 0} {x y : A} → Some x ≡ Some y → x ≡ y
    some_same e = cc
