-- Plans of the same numbers.
use Rattle.std.proofs.Common.{◌≡◌, ℕ, ◌+◌, ◌<◌, ◌≤◌, cond, eqb, List, Some, None, Option, sym, refl, ap, ◌∙◌, subst, arith}
use native.Mathlib.Bridge.{le_prop}
use Rattle.std.proofs.lemmas.List.{ext_get_or}
use Rattle.order.specs.declared.Party.{Party}
use Rattle.bounds.specs.declared.plan.Demand.{Demand}
use Rattle.bounds.specs.declared.plan.Plan.{Plan}
use Rattle.bounds.specs.Equation.{Caps, held, bound, cap_of, share, share_apart, interference, spread, right_side, Solves, Least, Answers, SameDemand, SamePlan, SameAnswer}
use Rattle.bounds.proofs.Sums.{sum_same}

one_least : (most : Caps) (p : Plan) (R S : List ℕ) → Least most p R → Least most p S → R ≡ S
one_least most p R S a b = ext_get_or 0 R S (a.solves.sized ∙ sym b.solves.sized) (λ k l. equal k (omega (arith, a.solves.sized)))
  where
    equal : (k : ℕ) → k < 16 → bound R k ≡ bound S k
    equal k l = omega (arith, a.least S b.solves k l, b.least R a.solves k l)

-- no two answers are right for one plan
one_answer : (most : Caps) (p : Plan) (a b : Option (List ℕ)) → Answers most p a → Answers most p b → a ≡ b
one_answer most p None None a b = refl
one_answer most p None (Some S) a b = absurd (a S b.solves)
one_answer most p (Some R) None a b = absurd (b R a.solves)
one_answer most p (Some R) (Some S) a b = ap (λ (x : List ℕ). Some x) (one_least most p R S a b)

abbrev Timed : ℕ → ℕ → Type 0
Timed T D = (1 ≤ D) × (D ≤ T) × (T ≤ 1000000)

abbrev Sized : ℕ → ℕ → Type 0
Sized L W = (1 ≤ L) × (L ≤ W) × (W ≤ 4194240)

abbrev demand : (T D L W : ℕ) → Timed T D → Sized L W → Demand
demand T D L W a b = record { period = T; deadline = D; longest = L; total = W; timed = a; sized = b }

three_prop : {A B C : Type 0} → ((x y : A) → x ≡ y) → ((x y : B) → x ≡ y) → ((x y : C) → x ≡ y) → (u v : A × B × C) → u ≡ v
three_prop f g h u v = λ i. (f u.0 v.0 i, g u.1 v.1 i, h u.2 v.2 i)

same_facts : (T D L W : ℕ) (a a' : Timed T D) (b b' : Sized L W) → demand T D L W a b ≡ demand T D L W a' b'
same_facts T D L W a a' b b' =
    ap (λ (x : Timed T D). demand T D L W x b) (three_prop le_prop le_prop le_prop a a')
    ∙ ap (λ (x : Sized L W). demand T D L W a' x) (three_prop le_prop le_prop le_prop b b')

same_numbers : (T D L W T' D' L' W' : ℕ) → T ≡ T' → D ≡ D' → L ≡ L' → W ≡ W' → (a : Timed T D) (a' : Timed T' D') (b : Sized L W) (b' : Sized L' W')
    → demand T D L W a b ≡ demand T' D' L' W' a' b'
same_numbers T D L W T' D' L' W' e1 e2 e3 e4 =
    subst (λ (t : ℕ). (a : Timed T D) (a' : Timed t D') (b : Sized L W) (b' : Sized L' W') → demand T D L W a b ≡ demand t D' L' W' a' b') e1
    (subst (λ (t : ℕ). (a : Timed T D) (a' : Timed T t) (b : Sized L W) (b' : Sized L' W') → demand T D L W a b ≡ demand T t L' W' a' b') e2
    (subst (λ (t : ℕ). (a : Timed T D) (a' : Timed T D) (b : Sized L W) (b' : Sized t W') → demand T D L W a b ≡ demand T D t W' a' b') e3
    (subst (λ (t : ℕ). (a : Timed T D) (a' : Timed T D) (b : Sized L W) (b' : Sized L t) → demand T D L W a b ≡ demand T D L t a' b') e4
    (same_facts T D L W))))

same_demand : (o e : Option Demand) → SameDemand o e → o ≡ e
same_demand None None h = refl
same_demand None (Some e) h = absurd h
same_demand (Some d) None h = absurd h
same_demand (Some d) (Some e) h =
    ap (λ (x : Demand). Some x)
    (same_numbers d.period d.deadline d.longest d.total e.period e.deadline e.longest e.total h.0 h.1 h.2 h.3
    d.timed e.timed d.sized e.sized)

turned_demand : (o e : Option Demand) → SameDemand o e → SameDemand e o
turned_demand None None h = tt
turned_demand None (Some e) h = absurd h
turned_demand (Some d) None h = absurd h
turned_demand (Some d) (Some e) h = (sym h.0, sym h.1, sym h.2, sym h.3)

turned : (p q : Plan) → SamePlan p q → SamePlan q p
turned p q s = record { cores = sym s.cores; slots = λ k l. turned_demand (held p k) (held q k) (s.slots k l) }

module _ (most : Caps) (p q : Plan) (s : SamePlan p q) where
  at : (k : ℕ) → k < 16 → held p k ≡ held q k
  at k l = same_demand (held p k) (held q k) (s.slots k l)

  same_share : (R : List ℕ) (k : ℕ) (d : Demand) (i : ℕ) → i < 16 → share_apart (cap_of most R k d) p R k i ≡ share_apart (cap_of most R k d) q R k i
  same_share R k d i l =
      ap (λ (m : ℕ). cond (eqb i k) 0 (share m (cap_of most R k d i) (bound R k + bound R i) (held p i))) s.cores
      ∙ ap (λ (o : Option Demand). cond (eqb i k) 0 (share q.cores (cap_of most R k d i) (bound R k + bound R i) o)) (at i l)

  same_side : (R : List ℕ) (k : ℕ) (d : Demand) → right_side most p R k d ≡ right_side most q R k d
  same_side R k d =
      ap (spread p.cores d.longest d.total)
      (sum_same 16 (share_apart (cap_of most R k d) p R k) (share_apart (cap_of most R k d) q R k) (same_share R k d))
      ∙ ap (λ (m : ℕ). spread m d.longest d.total (interference (cap_of most R k d) q R k)) s.cores

  same_solves : (R : List ℕ) → Solves most p R → Solves most q R
  same_solves R h =
      record {
        sized = h.sized;
        empty = λ k l e. h.empty k l (at k l ∙ e);
        equal = λ k d l e. h.equal k d l (at k l ∙ e) ∙ same_side R k d;
        kept = λ k d l e. h.kept k d l (at k l ∙ e);
      }

carried : (most : Caps) (p q : Plan) → SamePlan p q → (a : Option (List ℕ)) → Answers most p a → Answers most q a
carried most p q s None h = λ R t. h R (same_solves most q p (turned p q s) R t)
carried most p q s (Some R) h =
    record { solves = same_solves most p q s R h.solves; least = λ S t. h.least S (same_solves most q p (turned p q s) S t) }

equal_caps : (most also : Caps) → ((i k : Party) (R : ℕ) → most i k R ≡ also i k R) → most ≡ also
equal_caps most also h = λ t i k R. h i k R t

pub same_answer : SameAnswer
same_answer most also p q a b e s x y =
    one_answer also q a b (subst (λ (m : Caps). Answers m q a) (equal_caps most also e) (carried most p q s a x)) y
