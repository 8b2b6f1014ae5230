-- No two faults of layout hold at once, and none holds where a record is well laid out. Each fault has a stage, in the sequence in which
-- they are tried, and what was tried before is past.
use Rattle.std.proofs.Common.{◌≡◌, ℕ, zero, suc, ◌+◌, ◌-◌, ◌<◌, ◌≤◌, ◌⊎◌, List, [], length, sym, refl, ap, ◌∙◌, subst, inl, inr, arith}
use Rattle.std.proofs.lemmas.Bool.{cases_lt}
use Rattle.table.specs.declared.records.Kind.{Kind}
use Rattle.table.specs.declared.records.Kind.TheVariants.{OfTask, OfNode, OfArc}
use Rattle.table.specs.declared.reader.Seen.{Seen}
use Rattle.table.specs.declared.fault.LayoutFault.{LayoutFault}
use Rattle.table.specs.declared.fault.LayoutFault.TheVariants.{Missing, HeaderCutOff, UnknownKind, WrongLength, OutOfTurn, TooMany, RecordCutOff}
use Rattle.table.specs.Format.{size}
use Rattle.table.specs.Run.{InTurn, Room}
use Rattle.table.specs.Layout.{told, Named, Measured, Allowed, Roomy, Laid, Owed, Faulty}
use Rattle.table.proofs.Named.{one_kind, kind_numbered, numbered_back}

abbrev stage : LayoutFault → ℕ
stage (Missing k) = 0
stage (HeaderCutOff left) = 1
stage (UnknownKind n) = 2
stage (WrongLength k n) = 3
stage (OutOfTurn k) = 4
stage (TooMany k) = 5
stage (RecordCutOff k left) = 6

-- what is past at a stage
abbrev Past : Seen → List ℕ → ℕ → Type 0
Past s rest zero = Unit {0}
Past s rest (suc zero) = 1 ≤ length rest
Past s rest (suc (suc zero)) = 4 ≤ length rest
Past s rest (suc (suc (suc zero))) = (k : Kind) × Named rest k
Past s rest (suc (suc (suc (suc zero)))) = (k : Kind) × Measured rest k
Past s rest (suc (suc (suc (suc (suc zero))))) = (k : Kind) × Allowed s rest k
Past s rest (suc (suc (suc (suc (suc (suc zero)))))) = (k : Kind) × Roomy s rest k
Past s rest (suc (suc (suc (suc (suc (suc (suc n))))))) = (k : Kind) × Laid s rest k

-- and so is all before
before : (s : Seen) (rest : List ℕ) (n : ℕ) → Past s rest (suc n) → Past s rest n
before s rest zero h = tt
before s rest (suc zero) h = omega (arith, h)
before s rest (suc (suc zero)) h = h.1.header
before s rest (suc (suc (suc zero))) h = (h.0, h.1.named)
before s rest (suc (suc (suc (suc zero)))) h = (h.0, h.1.measured)
before s rest (suc (suc (suc (suc (suc zero))))) h = (h.0, h.1.allowed)
before s rest (suc (suc (suc (suc (suc (suc zero)))))) h = (h.0, h.1.roomy)
before s rest (suc (suc (suc (suc (suc (suc (suc n))))))) h = h

all_before : (s : Seen) (rest : List ℕ) (d n : ℕ) → Past s rest (d + n) → Past s rest n
all_before s rest zero n h = let e : 0 + n ≡ n = omega arith in subst (Past s rest) e h
all_before s rest (suc d) n h =
    let e : suc d + n ≡ suc (d + n) = omega arith in
    all_before s rest d n (before s rest (d + n) (subst (Past s rest) e h))

past : (s : Seen) (rest : List ℕ) (f : LayoutFault) → Faulty s rest f → Past s rest (stage f)
past s rest (Missing k) h = tt
past s rest (HeaderCutOff left) h = omega (arith, h.0, h.1)
past s rest (UnknownKind n) h = h.0
past s rest (WrongLength k n) h = (k, h.0)
past s rest (OutOfTurn k) h = (k, h.0)
past s rest (TooMany k) h = (k, h.0)
past s rest (RecordCutOff k left) h = (k, h.0)

-- what a fault denies
denied : (s : Seen) (rest : List ℕ) (f : LayoutFault) → Faulty s rest f → Past s rest (suc (stage f)) → ⊥
denied s rest (Missing k) h p = omega (arith, p, ap length h.0)
denied s rest (HeaderCutOff left) h p = omega (arith, p, h.0, h.2)
denied s rest (UnknownKind n) h p = h.2 p.0 (sym h.1 ∙ p.1.names)
denied s rest (WrongLength k n) h p = h.2 (sym h.1 ∙ p.1.length_told ∙ ap size (one_kind rest p.0 k p.1.named h.0))
denied s rest (OutOfTurn k) h p =
    h.1 (subst (InTurn s) (one_kind rest p.0 k p.1.measured.named h.0.named) p.1.in_turn)
denied s rest (TooMany k) h p =
    h.1 (subst (Room s) (one_kind rest p.0 k p.1.allowed.measured.named h.0.measured.named) p.1.room)
denied s rest (RecordCutOff k left) h p =
    omega (
      arith,
      h.1,
      h.2,
      p.1.whole,
      ap size (one_kind rest p.0 k p.1.roomy.allowed.measured.named h.0.allowed.measured.named),
    )

not_past : (s : Seen) (rest : List ℕ) (f : LayoutFault) (n : ℕ) → Faulty s rest f → stage f < n → Past s rest n → ⊥
not_past s rest f n h lt p =
    let e : n ≡ (n - suc (stage f)) + suc (stage f) = omega arith in
    denied s rest f h (all_before s rest (n - suc (stage f)) (suc (stage f)) (subst (Past s rest) e p))

one_stage : (s : Seen) (rest : List ℕ) (f g : LayoutFault) → Faulty s rest f → Faulty s rest g → stage f ≡ stage g
one_stage s rest f g hf hg = go (cases_lt (stage f) (stage g)) (cases_lt (stage g) (stage f))
  where
    go : (stage f < stage g) ⊎ (stage g ≤ stage f) → (stage g < stage f) ⊎ (stage f ≤ stage g) → stage f ≡ stage g
    go (inl lt) q = absurd (not_past s rest f (stage g) hf lt (past s rest g hg))
    go (inr le) (inl lt) = absurd (not_past s rest g (stage f) hg lt (past s rest f hf))
    go (inr le) (inr ge) = omega arith

-- the fault of a stage
abbrev owed_kind : ℕ → Kind
owed_kind zero = OfTask
owed_kind (suc n) = OfNode

abbrev fault_of : Seen → List ℕ → ℕ → LayoutFault
fault_of s rest zero = Missing (owed_kind s.tasks)
fault_of s rest (suc zero) = HeaderCutOff (length rest)
fault_of s rest (suc (suc zero)) = UnknownKind (told rest 2)
fault_of s rest (suc (suc (suc zero))) = WrongLength (kind_numbered (told rest 2)) (told rest 0)
fault_of s rest (suc (suc (suc (suc zero)))) = OutOfTurn (kind_numbered (told rest 2))
fault_of s rest (suc (suc (suc (suc (suc zero))))) = TooMany (kind_numbered (told rest 2))
fault_of s rest (suc (suc (suc (suc (suc (suc n)))))) = RecordCutOff (kind_numbered (told rest 2)) (length rest)

owed_is : (s : Seen) (k : Kind) (n : ℕ) → s.tasks ≡ n → Owed s k → k ≡ owed_kind n
owed_is s OfTask zero e h = refl
owed_is s OfTask (suc n) e h = absurd (omega arith)
owed_is s OfNode zero e h = absurd (omega (arith, h.0))
owed_is s OfNode (suc n) e h = refl
owed_is s OfArc n e h = absurd h

is_fault_of : (s : Seen) (rest : List ℕ) (f : LayoutFault) → Faulty s rest f → f ≡ fault_of s rest (stage f)
is_fault_of s rest (Missing k) h = ap Missing (owed_is s k s.tasks refl h.1)
is_fault_of s rest (HeaderCutOff left) h = ap HeaderCutOff h.0
is_fault_of s rest (UnknownKind n) h = ap UnknownKind (sym h.1)
is_fault_of s rest (WrongLength k n) h = let e = numbered_back k (told rest 2) h.0.names in let f = sym h.1 in cc
is_fault_of s rest (OutOfTurn k) h = ap OutOfTurn (numbered_back k (told rest 2) h.0.named.names)
is_fault_of s rest (TooMany k) h = ap TooMany (numbered_back k (told rest 2) h.0.measured.named.names)
is_fault_of s rest (RecordCutOff k left) h =
    let e = numbered_back k (told rest 2) h.0.allowed.measured.named.names in let f = h.1 in cc

pub one_fault : (s : Seen) (rest : List ℕ) (f g : LayoutFault) → Faulty s rest f → Faulty s rest g → f ≡ g
one_fault s rest f g hf hg =
    is_fault_of s rest f hf ∙ ap (fault_of s rest) (one_stage s rest f g hf hg) ∙ sym (is_fault_of s rest g hg)

at_most_six : (f : LayoutFault) → stage f < 7
at_most_six (Missing k) = omega arith
at_most_six (HeaderCutOff left) = omega arith
at_most_six (UnknownKind n) = omega arith
at_most_six (WrongLength k n) = omega arith
at_most_six (OutOfTurn k) = omega arith
at_most_six (TooMany k) = omega arith
at_most_six (RecordCutOff k left) = omega arith

pub laid_faulty : (s : Seen) (rest : List ℕ) (k : Kind) (f : LayoutFault) → Laid s rest k → Faulty s rest f → ⊥
laid_faulty s rest k f l h = not_past s rest f 7 h (at_most_six f) (k, l)

-- nor at the end of a table that has its task and a node
pub end_faulty : (s : Seen) (rest : List ℕ) (f : LayoutFault) → rest ≡ [] → 1 ≤ s.tasks → 1 ≤ s.nodes → Faulty s rest f → ⊥
end_faulty s rest f e tasks nodes h = go (cases_lt 0 (stage f))
  where
    owes : (k : Kind) → Owed s k → ⊥
    owes OfTask o = omega arith
    owes OfNode o = omega (arith, o.1)
    owes OfArc o = o

    missing : (g : LayoutFault) → stage g ≤ 0 → Faulty s rest g → ⊥
    missing (Missing k) le hg = owes k hg.1
    missing (HeaderCutOff left) le hg = omega arith
    missing (UnknownKind n) le hg = omega arith
    missing (WrongLength k n) le hg = omega arith
    missing (OutOfTurn k) le hg = omega arith
    missing (TooMany k) le hg = omega arith
    missing (RecordCutOff k left) le hg = omega arith

    go : (0 < stage f) ⊎ (stage f ≤ 0) → ⊥
    go (inl lt) =
        let split : stage f ≡ (stage f - 1) + 1 = omega arith in
        let some : 1 ≤ length rest = all_before s rest (stage f - 1) 1 (subst (Past s rest) split (past s rest f h)) in
        omega (arith, ap length e)
    go (inr le) = missing f le h
