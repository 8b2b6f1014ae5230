-- Words make one statement at most.
use Rattle.std.proofs.Common.{◌≡◌, ℕ, List, [], ◌∷◌, length, get_or, drop, sym, refl, ap, ◌∙◌, subst, arith}
use Rattle.table.specs.declared.records.Arc.{Arc}
use Rattle.table.specs.declared.records.Node.{Node}
use Rattle.table.specs.declared.records.Region.{Region}
use Rattle.table.specs.declared.records.Region.TheVariants.{Top, Branch}
use Rattle.table.specs.declared.records.Role.{Role}
use Rattle.table.specs.declared.records.Role.TheVariants.{Plain, Opening, Closing}
use Rattle.plans.specs.declared.plan.Precedence.{Precedence}
use Rattle.plans.specs.declared.plan.Precedence.TheVariants.{Fixed, Open}
use Rattle.std.specs.Str.Parse.{without_leading_plus, digits_value}
use Rattle.plans.specs.Numerals.{Counts}
use Rattle.plans.specs.Statements.{Word, ToldTable, timed, filed, Said, cores, order, task, node, arc, order_word, role_word, keyword}
use Rattle.plans.specs.Statements.{RegionSaid, PlaceSaid, NodeSaid, TableSaid, TaskSaid, GoesOn, OneStatement}

-- a word is one number at most
pub one_number : (a b : ℕ) (v w : Word) (m n : ℕ) → v ≡ w → Counts a v m → Counts b w n → m ≡ n
one_number a b v w m n e j k = j.value ∙ ap (λ (x : Word). digits_value 10 (without_leading_plus x)) e ∙ sym k.value

-- the word at a place of two lists that are equal
pub at : (k : ℕ) (vs ws : List Word) → vs ≡ ws → get_or vs k [] ≡ get_or ws k []
at k vs ws e = ap (λ (l : List Word). get_or l k []) e

pub byte : (k : ℕ) (v w : Word) → v ≡ w → get_or v k 0 ≡ get_or w k 0
byte k v w e = ap (λ (l : Word). get_or l k 0) e

one_order : (o p : Precedence) → order_word o ≡ order_word p → o ≡ p
one_order Fixed Fixed e = refl
one_order Fixed Open e = absurd (omega (arith, byte 0 _ _ e))
one_order Open Fixed e = absurd (omega (arith, byte 0 _ _ e))
one_order Open Open e = refl

one_region : (ws : List Word) (r q : Region) → RegionSaid ws r → RegionSaid ws q → r ≡ q
one_region ws Top Top s t = refl
one_region ws Top (Branch h b) s t = absurd (omega (arith, ap length (sym s ∙ t.4)))
one_region ws (Branch h b) Top s t = absurd (omega (arith, ap length (sym t ∙ s.4)))
one_region ws (Branch h b) (Branch i c) s t =
    let e = sym s.4 ∙ t.4 in
    ap (λ (x : ℕ). Branch x b) (one_number 63 63 _ _ h i (at 1 _ _ e) s.5.2 t.5.2)
    ∙ ap (Branch i) (one_number 255 255 _ _ b c (at 3 _ _ e) s.5.3 t.5.3)

one_place : (ws : List Word) (x y : Role) (r q : Region) → role_word x ≡ role_word y → PlaceSaid ws x r → PlaceSaid ws y q → (x ≡ y) × (r ≡ q)
one_place ws Plain Plain r q e s t = (refl, one_region ws r q s t)
one_place ws Plain Opening r q e s t = absurd (omega (arith, byte 0 _ _ e))
one_place ws Plain (Closing n) r q e s t = absurd (omega (arith, byte 0 _ _ e))
one_place ws Opening Plain r q e s t = absurd (omega (arith, byte 0 _ _ e))
one_place ws Opening Opening r q e s t = (refl, one_region ws r q s t)
one_place ws Opening (Closing n) r q e s t = absurd (omega (arith, byte 0 _ _ e))
one_place ws (Closing m) Plain r q e s t = absurd (omega (arith, byte 0 _ _ e))
one_place ws (Closing m) Opening r q e s t = absurd (omega (arith, byte 0 _ _ e))
one_place ws (Closing m) (Closing n) r q e s t =
    let f = sym s.2 ∙ t.2 in (
      ap Closing (one_number 63 63 _ _ m n (at 1 _ _ f) s.3 t.3),
      one_region t.1 r q (subst (λ (l : List Word). RegionSaid l r) (ap (λ (l : List Word). drop 2 l) f) s.4) t.4,
    )

node_of : Role → Region → ℕ → Node
node_of x r n = record { role = x; region = r; time = n }

one_node : (ws : List Word) (m n : Node) → NodeSaid ws m → NodeSaid ws n → m ≡ n
unfolding node_of
one_node ws m n s t =
    let e = sym s.words_are ∙ t.words_are in
    let p = one_place t.rest m.role n.role m.region n.region (at 0 _ _ e)
    (subst (λ (l : List Word). PlaceSaid l m.role m.region) (ap (λ (l : List Word). drop 2 l) e) s.place_said) t.place_said in
    ap (λ (x : Role). node_of x m.region m.time) p.0 ∙ ap (λ (r : Region). node_of n.role r m.time) p.1
    ∙ ap (node_of n.role n.region) (one_number _ _ _ _ m.time n.time (at 1 _ _ e) s.time_said t.time_said)

one_table : (ws : List Word) (t u : ToldTable) → TableSaid ws t → TableSaid ws u → t ≡ u
one_table ws (timed t) (timed u) s v =
    let e = sym s.4 ∙ v.4 in
    let p = one_number _ _ _ _ t.period u.period (at 1 _ _ e) s.5.period_said v.5.period_said in
    let d = one_number _ _ _ _ t.deadline u.deadline (at 3 _ _ e) s.5.deadline_said v.5.deadline_said in
    ap (λ (x : ℕ). timed (record { period = x; deadline = t.deadline })) p ∙ ap (λ (x : ℕ). timed (record { period = u.period; deadline = x })) d
one_table ws (timed t) (filed f) s v = absurd (omega (arith, ap length (sym s.4 ∙ v.2)))
one_table ws (filed f) (timed u) s v = absurd (omega (arith, ap length (sym s.2 ∙ v.4)))
one_table ws (filed f) (filed g) s v = ap filed (s.3.name_is ∙ at 1 _ _ (sym s.2 ∙ v.2) ∙ sym v.3.name_is)

one_task : (ws : List Word) (a b : Word) (m n : ℕ) (t u : ToldTable) → TaskSaid ws a m t → TaskSaid ws b n u → task a m t ≡ task b n u
one_task ws a b m n t u s v =
    let e = sym s.words_are ∙ v.words_are in
    ap (λ (x : Word). task x m t) (at 0 _ _ e) ∙ ap (λ (x : ℕ). task b x t) (one_number _ _ _ _ m n (at 2 _ _ e) s.slot_said v.slot_said)
    ∙ ap (task b n) (one_table v.rest t u (subst (λ (l : List Word). TableSaid l t) (ap (λ (l : List Word). drop 3 l) e) s.table_said) v.table_said)

one_arc : (ws : List Word) (a b : Arc) → GoesOn ws (arc a) → GoesOn ws (arc b) → arc a ≡ arc b
one_arc ws a b s t =
    let e = sym s.2 ∙ t.2 in
    ap (λ (x : ℕ). arc (record { from = x; to = a.to })) (one_number _ _ _ _ a.from b.from (at 0 _ _ e) s.3 t.3)
    ∙ ap (λ (x : ℕ). arc (record { from = b.from; to = x })) (one_number _ _ _ _ a.to b.to (at 1 _ _ e) s.4 t.4)

one_rest : (ws : List Word) (s t : Said) → keyword s ≡ keyword t → GoesOn ws s → GoesOn ws t → s ≡ t
one_rest ws (cores m) (cores n) e g h = ap cores (one_number _ _ _ _ m n (at 0 _ _ (sym g.1 ∙ h.1)) g.2 h.2)
one_rest ws (cores m) (order o) e g h = absurd (omega (arith, byte 0 _ _ e))
one_rest ws (cores m) (task a n t) e g h = absurd (omega (arith, byte 0 _ _ e))
one_rest ws (cores m) (node n) e g h = absurd (omega (arith, byte 0 _ _ e))
one_rest ws (cores m) (arc a) e g h = absurd (omega (arith, byte 0 _ _ e))
one_rest ws (order o) (cores n) e g h = absurd (omega (arith, byte 0 _ _ e))
one_rest ws (order o) (order p) e g h = ap order (one_order o p (at 0 _ _ (sym g ∙ h)))
one_rest ws (order o) (task a n t) e g h = absurd (omega (arith, byte 0 _ _ e))
one_rest ws (order o) (node n) e g h = absurd (omega (arith, byte 0 _ _ e))
one_rest ws (order o) (arc a) e g h = absurd (omega (arith, byte 0 _ _ e))
one_rest ws (task b m u) (cores n) e g h = absurd (omega (arith, byte 0 _ _ e))
one_rest ws (task b m u) (order o) e g h = absurd (omega (arith, byte 0 _ _ e))
one_rest ws (task b m u) (task a n t) e g h = one_task ws b a m n u t g h
one_rest ws (task b m u) (node n) e g h = absurd (omega (arith, byte 0 _ _ e))
one_rest ws (task b m u) (arc a) e g h = absurd (omega (arith, byte 0 _ _ e))
one_rest ws (node m) (cores n) e g h = absurd (omega (arith, byte 0 _ _ e))
one_rest ws (node m) (order o) e g h = absurd (omega (arith, byte 0 _ _ e))
one_rest ws (node m) (task a n t) e g h = absurd (omega (arith, byte 0 _ _ e))
one_rest ws (node m) (node n) e g h = ap node (one_node ws m n g h)
one_rest ws (node m) (arc a) e g h = absurd (omega (arith, byte 0 _ _ e))
one_rest ws (arc b) (cores n) e g h = absurd (omega (arith, byte 0 _ _ e))
one_rest ws (arc b) (order o) e g h = absurd (omega (arith, byte 0 _ _ e))
one_rest ws (arc b) (task a n t) e g h = absurd (omega (arith, byte 0 _ _ e))
one_rest ws (arc b) (node n) e g h = absurd (omega (arith, byte 0 _ _ e))
one_rest ws (arc b) (arc a) e g h = one_arc ws b a g h

pub one_statement_lem : OneStatement
one_statement_lem [] s t m n = absurd m
one_statement_lem (first ∷ ws) s t m n = one_rest ws s t (sym m.0 ∙ n.0) m.1 n.1
