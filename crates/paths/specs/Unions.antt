-- Unions of sets of numbers.
use Rattle.std.specs.Prelude.{◌≡◌, ℕ, zero, suc, ◌/◌, ◌%◌, ◌^◌, ◌<◌, ◌≤◌, ◌⊎◌, bit_or, nat_lt, refl}
use Rattle.std.proofs.Common.{sym, ap, ap₂, subst, ◌∙◌, inl, inr, arith}
use Rattle.std.proofs.Math.Arith.{bin_ind}
use Rattle.std.specs.Int.Bits.{or_self}
use Rattle.std.proofs.lemmas.Nat.{or_shr, or_mod, mod_below, pow_below, or_comm}
use Rattle.std.proofs.lemmas.Bool.{cases_lt, cond-true, cond-false, lt-ltb, le-ltb}
use Rattle.table.specs.declared.records.Node.{Node}
use Rattle.sets.specs.declared.bit_set.BitSet.{BitSet}
use Rattle.sets.specs.Sets.{Has, With, ◌∪◌}
use Rattle.sets.proofs.Bits.{pow_bit}
use Rattle.sets.proofs.Marked.{no_number, none_in_zero, only_pow, pow_only}
use Rattle.paths.specs.Algebra.{LawfulAlgebra}
use Rattle.paths.specs.Instances.{node_alone}

by_digits : (a b : ℕ) → a / 2 ≡ b / 2 → a % 2 ≡ b % 2 → a ≡ b
by_digits a b high low = omega arith

digit_assoc : (x y z : ℕ) → x < 2 → y < 2 → z < 2 → bit_or (bit_or x y) z ≡ bit_or x (bit_or y z)
digit_assoc zero y z hx hy hz = refl
digit_assoc (suc zero) zero z hx hy hz = refl
digit_assoc (suc zero) (suc zero) zero hx hy hz = refl
digit_assoc (suc zero) (suc zero) (suc zero) hx hy hz = refl
digit_assoc (suc zero) (suc zero) (suc (suc z)) hx hy hz = absurd (omega arith)
digit_assoc (suc zero) (suc (suc y)) z hx hy hz = absurd (omega arith)
digit_assoc (suc (suc x)) y z hx hy hz = absurd (omega arith)

or_assoc : (a b c : ℕ) → bit_or (bit_or a b) c ≡ bit_or a (bit_or b c)
or_assoc =
    bin_ind (λ (n : ℕ). (b c : ℕ) → bit_or (bit_or n b) c ≡ bit_or n (bit_or b c)) (λ b c. refl)
    (λ n ih b c.
    by_digits (bit_or (bit_or n b) c) (bit_or n (bit_or b c))
    (or_shr (bit_or n b) c 1 ∙ ap (λ (x : ℕ). bit_or x (c / 2)) (or_shr n b 1) ∙ ih (b / 2) (c / 2)
    ∙ sym (or_shr n (bit_or b c) 1 ∙ ap (bit_or (n / 2)) (or_shr b c 1)))
    (or_mod (bit_or n b) c 1 ∙ ap (λ (x : ℕ). bit_or x (c % 2)) (or_mod n b 1)
    ∙ digit_assoc (n % 2) (b % 2) (c % 2) (mod_below n 2 (omega arith)) (mod_below b 2 (omega arith)) (mod_below c 2 (omega arith))
    ∙ sym (or_mod n (bit_or b c) 1 ∙ ap (bit_or (n % 2)) (or_mod b c 1))))

abbrev of_bits : ℕ → BitSet
of_bits x = record { bits = x }

union_assoc : (a b c : BitSet) → (a ∪ b) ∪ c ≡ a ∪ (b ∪ c)
union_assoc a b c = ap of_bits (or_assoc a.bits b.bits c.bits)

union_comm : (a b : BitSet) → a ∪ b ≡ b ∪ a
union_comm a b = ap of_bits (or_comm a.bits b.bits)

union_self : (a : BitSet) → a ∪ a ≡ a
union_self a = ap of_bits (or_self a.bits)

-- a union goes over a union
union_left : (a b c : BitSet) → a ∪ (b ∪ c) ≡ (a ∪ b) ∪ (a ∪ c)
union_left a b c =
    ap (λ (x : BitSet). x ∪ (b ∪ c)) (sym (union_self a))
    ∙ union_assoc a a (b ∪ c)
    ∙ ap (λ (x : BitSet). a ∪ x) (sym (union_assoc a b c) ∙ ap (λ (x : BitSet). x ∪ c) (union_comm a b) ∙ union_assoc b a c)
    ∙ sym (union_assoc a b (a ∪ c))

pub union_lawful : LawfulAlgebra BitSet ◌∪◌ ◌∪◌
union_lawful =
    record {
      choice_assoc = union_assoc;
      choice_comm = union_comm;
      choice_self = union_self;
      extension_assoc = union_assoc;
      extension_left = union_left;
      extension_right = λ a b c. union_comm (a ∪ b) c ∙ union_left c a b ∙ ap₂ ◌∪◌ (union_comm c a) (union_comm c b);
    }

module _ (v : ℕ) (node : Node) where
  alone_is : v < 64 → node_alone v node ≡ of_bits (2 ^ v)
  alone_is l = cond-true (nat_lt v 64) (of_bits (2 ^ v)) no_number (lt-ltb v 64 l)

  pub alone_none : 64 ≤ v → node_alone v node ≡ no_number
  alone_none l = cond-false (nat_lt v 64) (of_bits (2 ^ v)) no_number (le-ltb v 64 l)

  pub has_alone : v < 64 → Has (node_alone v node) v
  has_alone l = subst (λ (s : BitSet). Has s v) (sym (alone_is l)) (pow_bit v)

  pub only_alone : (u : ℕ) → Has (node_alone v node) u → u ≡ v
  only_alone u h = go (cases_lt v 64)
    where
      go : (v < 64) ⊎ (64 ≤ v) → u ≡ v
      go (inl l) = (only_pow (of_bits (2 ^ v)) v refl).no_other u (subst (λ (s : BitSet). Has s u) (alone_is l) h)
      go (inr l) = absurd (none_in_zero (node_alone v node) (ap (λ (s : BitSet). s.bits) (alone_none l)) u h)

  -- the empty set with just v
  pub with_alone : (r : BitSet) → v < 64 → r.bits < 2 ^ 64 → With no_number v r → r ≡ node_alone v node
  with_alone r l small new =
      ap of_bits (pow_only r v small (pow_below v 64 l) new.new (record { the_one = v; has_it = new.new; no_other = λ w h. other w (new.no_more w h) }))
      ∙ sym (alone_is l)
    where
      other : (w : ℕ) → Has no_number w ⊎ (w ≡ v) → w ≡ v
      other w (inl h) = absurd (none_in_zero no_number refl w h)
      other w (inr e) = e
