-- Sets of numbers, and the properties that they mark.
use Rattle.std.proofs.Common.{◌≡◌, ℕ, ◌+◌, ◌/◌, ◌^◌, ◌<◌, ◌≤◌, ◌⊎◌, get_or, replicate, sym, refl, ap, ◌∙◌, subst, inl, inr, arith}
use lib.Bits.{bit_or, bit_xor}
use lib.ListN.{length-replicate, get_or-replicate}
use Rattle.std.proofs.lemmas.List.{get_or_past}
use Rattle.std.proofs.lemmas.Bool.{cases_eq, cases_lt}
use Rattle.sets.specs.Sets.{JustOne, Has, With, Without, Only, Marks}
use Rattle.sets.specs.declared.bit_set.BitSet.{BitSet}
use Rattle.sets.proofs.Bits.{bit, zero_or_one, zero_bit, pow_bit, pow_bit_other, or_pow_same, or_pow_other, xor_pow_same, xor_pow_other, same_bits}

abbrev pub no_number : BitSet
no_number = record { bits = 0 }

pub or_with : (x n : ℕ) → With (record { bits = x }) n (record { bits = bit_or x (2 ^ n) })
or_with x n =
    record {
      new = or_pow_same x n;
      keeps = λ j h. keeps j h (cases_eq j n);
      no_more = λ j h. no_more j h (cases_eq j n);
    }
  where
    keeps : (j : ℕ) → bit x j ≡ 1 → (j ≡ n) ⊎ (j ≡ n → ⊥) → bit (bit_or x (2 ^ n)) j ≡ 1
    keeps j h (inl e) = subst (λ (i : ℕ). bit (bit_or x (2 ^ n)) i ≡ 1) (sym e) (or_pow_same x n)
    keeps j h (inr d) = or_pow_other x n j d ∙ h

    no_more : (j : ℕ) → bit (bit_or x (2 ^ n)) j ≡ 1 → (j ≡ n) ⊎ (j ≡ n → ⊥) → (bit x j ≡ 1) ⊎ (j ≡ n)
    no_more j h (inl e) = inr e
    no_more j h (inr d) = inl (sym (or_pow_other x n j d) ∙ h)

pub xor_without : (x n : ℕ) → bit x n ≡ 1 → Without (record { bits = x }) n (record { bits = bit_xor x (2 ^ n) })
xor_without x n h =
    record {
      gone = λ g. omega (arith, xor_pow_same x n h);
      keeps = λ j g. keeps j g (cases_eq j n);
      no_more = λ j g. no_more j g (cases_eq j n);
    }
  where
    keeps : (j : ℕ) → bit x j ≡ 1 → (j ≡ n) ⊎ (j ≡ n → ⊥) → (j ≡ n) ⊎ (bit (bit_xor x (2 ^ n)) j ≡ 1)
    keeps j g (inl e) = inl e
    keeps j g (inr d) = inr (xor_pow_other x n j d ∙ g)

    no_more : (j : ℕ) → bit (bit_xor x (2 ^ n)) j ≡ 1 → (j ≡ n) ⊎ (j ≡ n → ⊥) → bit x j ≡ 1
    no_more j g (inl e) = subst (λ (i : ℕ). bit x i ≡ 1) (sym e) h
    no_more j g (inr d) = sym (xor_pow_other x n j d) ∙ g

pub only_pow : (s : BitSet) (n : ℕ) → s.bits ≡ 2 ^ n → Only s n
only_pow s n e = record { inside = subst (λ (x : ℕ). bit x n ≡ 1) (sym e) (pow_bit n); no_other = λ j h. other j h (cases_eq j n) }
  where
    other : (j : ℕ) → Has s j → (j ≡ n) ⊎ (j ≡ n → ⊥) → j ≡ n
    other j h (inl q) = q
    other j h (inr d) =
        let z : bit s.bits j ≡ 0 = subst (λ (x : ℕ). bit x j ≡ 0) (sym e) (pow_bit_other n j d) in
        absurd (omega arith)

-- a set of one number has no other bit than that number's
pub pow_only : (s : BitSet) (n : ℕ) → s.bits < 2 ^ 64 → 2 ^ n < 2 ^ 64 → Has s n → JustOne (Has s) → s.bits ≡ 2 ^ n
pow_only s n l p h one = same_bits 64 s.bits (2 ^ n) l p (λ k _. go k (cases_eq k n))
  where
    go : (k : ℕ) → (k ≡ n) ⊎ (k ≡ n → ⊥) → bit s.bits k ≡ bit (2 ^ n) k
    go k (inl e) = subst (λ (x : ℕ). bit s.bits x ≡ bit (2 ^ n) x) (sym e) (h ∙ sym (pow_bit n))
    go k (inr d) = none (zero_or_one (s.bits / 2 ^ k)) ∙ sym (pow_bit_other n k d)
      where
        none : (bit s.bits k ≡ 0) ⊎ (bit s.bits k ≡ 1) → bit s.bits k ≡ 0
        none (inl z) = z
        none (inr g) = absurd (d (one.no_other k g ∙ sym (one.no_other n h)))

pub none_in_zero : (s : BitSet) → s.bits ≡ 0 → (n : ℕ) → Has s n → ⊥
none_in_zero s e n h = let z : bit s.bits n ≡ 0 = subst (λ (x : ℕ). bit x n ≡ 0) (sym e) (zero_bit n) in omega arith

-- all rows are empty
pub none_in_rows : (m u v : ℕ) → Has (get_or (replicate m no_number) u no_number) v → ⊥
none_in_rows m u v h = go (cases_lt u m)
  where
    go : (u < m) ⊎ (m ≤ u) → ⊥
    go (inl l) = none_in_zero (get_or (replicate m no_number) u no_number) (ap (λ (s : BitSet). s.bits) (get_or-replicate m u no_number no_number l)) v h
    go (inr l) =
        none_in_zero (get_or (replicate m no_number) u no_number)
        (ap (λ (s : BitSet). s.bits) (get_or_past (replicate m no_number) u no_number (omega (arith, length-replicate m no_number)))) v h

marks_none : {P : ℕ → Type 0} → ((n : ℕ) → P n → ⊥) → Marks P no_number
marks_none none = record { only = λ n h. absurd (omega (arith, zero_bit n)); every = λ n p. absurd (none n p) }

pub marks_like : {P Q : ℕ → Type 0} {s : BitSet} → Marks P s → ((n : ℕ) → P n → Q n) → ((n : ℕ) → Q n → P n) → Marks Q s
marks_like m f g = record { only = λ n h. f n (m.only n h); every = λ n q. m.every n (g n q) }

-- some number below m, as an arc's place, has Q with n
abbrev pub SomeBelow : (ℕ → ℕ → Type 0) → ℕ → ℕ → Type 0
SomeBelow Q m n = (k : ℕ) × (k < m) × Q k n

module _ (Q : ℕ → ℕ → Type 0) where
  some_none : (n : ℕ) → SomeBelow Q 0 n → ⊥
  some_none n (k, l, q) = omega arith

  some_less : (m n : ℕ) → SomeBelow Q m n → SomeBelow Q (m + 1) n
  some_less m n (k, l, q) = (k, omega arith, q)

  some_more : (m n : ℕ) → SomeBelow Q (m + 1) n → SomeBelow Q m n ⊎ Q m n
  some_more m n (k, l, q) = go (cases_eq k m)
    where
      go : (k ≡ m) ⊎ (k ≡ m → ⊥) → SomeBelow Q m n ⊎ Q m n
      go (inl e) = inr (subst (λ (i : ℕ). Q i n) e q)
      go (inr d) = inl (k, grind arith, q)

  pub gather_none : Marks (SomeBelow Q 0) no_number
  gather_none = marks_none some_none

  -- m has Q with nothing
  pub gather_skip : (m : ℕ) (s : BitSet) → Marks (SomeBelow Q m) s → ((n : ℕ) → Q m n → ⊥) → Marks (SomeBelow Q (m + 1)) s
  gather_skip m s w none = marks_like w (some_less m) (λ n q. back n (some_more m n q))
    where
      back : (n : ℕ) → SomeBelow Q m n ⊎ Q m n → SomeBelow Q m n
      back n (inl b) = b
      back n (inr q) = absurd (none n q)

  -- m has Q with i alone
  pub gather_more : (m i : ℕ) (s r : BitSet) → Marks (SomeBelow Q m) s → With s i r → Q m i → ((n : ℕ) → Q m n → n ≡ i) → Marks (SomeBelow Q (m + 1)) r
  gather_more m i s r w new here alone =
      record { only = λ n h. only n (new.no_more n h); every = λ n q. every n (some_more m n q) }
    where
      only : (n : ℕ) → Has s n ⊎ (n ≡ i) → SomeBelow Q (m + 1) n
      only n (inl h) = some_less m n (w.only n h)
      only n (inr e) = (m, omega arith, subst (λ (j : ℕ). Q m j) (sym e) here)

      every : (n : ℕ) → SomeBelow Q m n ⊎ Q m n → Has r n
      every n (inl b) = new.keeps n (w.every n b)
      every n (inr q) = subst (λ (j : ℕ). Has r j) (sym (alone n q)) new.new

-- s has the numbers below m with the property, and no other
abbrev pub MarksBelow : (ℕ → Type 0) → ℕ → BitSet → Type 0
MarksBelow P m s = Marks (SomeBelow (λ k n. (n ≡ k) × P k) m) s

module _ (P : ℕ → Type 0) where
  pub mark_none : MarksBelow P 0 no_number
  mark_none = gather_none (λ k n. (n ≡ k) × P k)

  pub mark_skip : (m : ℕ) (s : BitSet) → MarksBelow P m s → (P m → ⊥) → MarksBelow P (m + 1) s
  mark_skip m s w none = gather_skip (λ k n. (n ≡ k) × P k) m s w (λ n q. none q.1)

  pub mark_more : (m : ℕ) (s r : BitSet) → MarksBelow P m s → With s m r → P m → MarksBelow P (m + 1) r
  mark_more m s r w new p = gather_more (λ k n. (n ≡ k) × P k) m m s r w new (refl, p) (λ n q. q.0)

  -- only numbers below m have the property
  pub mark_all : (m : ℕ) (s : BitSet) → ((n : ℕ) → P n → n < m) → MarksBelow P m s → Marks P s
  mark_all m s small w = marks_like w there (λ n p. (n, small n p, (refl, p)))
    where
      there : (n : ℕ) → SomeBelow (λ k j. (j ≡ k) × P k) m n → P n
      there n (k, l, q) = subst P (sym q.0) q.1

-- the number that a set has alone is the one with the property that it marks
pub just_one : {P : ℕ → Type 0} {s : BitSet} → Marks P s → (n : ℕ) → Only s n → JustOne P
just_one m n o = record { the_one = n; has_it = m.only n o.inside; no_other = λ w p. o.no_other w (m.every w p) }

pub one_marked : {P : ℕ → Type 0} {s : BitSet} → Marks P s → JustOne P → JustOne (Has s)
one_marked m j = record { the_one = j.the_one; has_it = m.every j.the_one j.has_it; no_other = λ w h. j.no_other w (m.only w h) }
