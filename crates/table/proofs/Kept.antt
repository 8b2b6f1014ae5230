-- What holds between two records, and how a record is found to stand in the bytes.
use Rattle.std.proofs.Common.{◌≡◌, ℕ, ◌+◌, ◌-◌, ◌*◌, ◌<◌, ◌≤◌, ◌⊎◌, List, [], ◌∷◌, ◌++◌, length, get_or, take, drop, sym, refl, ap, ◌∙◌, subst, inl, inr, arith, length-append, length-drop, take-append-drop}
use Rattle.std.proofs.lemmas.List.{append-nil, append_assoc, drop-drop, drop_all, get_or-drop, length-take-le}
use Rattle.table.specs.declared.records.Kind.TheVariants.{OfTask, OfNode, OfArc}
use Rattle.table.specs.declared.records.Kind.{Kind}
use Rattle.table.specs.declared.reader.Seen.{Seen}
use Rattle.table.specs.declared.records.Table.{Table}
use Rattle.table.specs.Format.{Record, task, node, arc, kind, number, size, fields, encode, two_bytes}
use Rattle.table.specs.Range.{InRange}
use Rattle.table.specs.Run.{Run, begin, ◌then◌, encoding, counted, seen, Next, InTurn, Room, Sound}
use Rattle.table.specs.Whole.{Encodes}
use Rattle.table.proofs.Runs.{nodes, arcs, timing, records}
use Rattle.table.proofs.Tables.{Whole, whole_run, lawful_whole}
use Rattle.table.specs.Layout.{told, Laid, Faulty}
use Rattle.table.specs.declared.fault.LayoutFault.{LayoutFault}
use Rattle.table.specs.declared.fault.Misfit.{Misfit}
use Rattle.table.specs.Fields.{Misfits, FirstOut, fields_of}
use Rattle.table.specs.Reading.{LayoutAt, RangeAt, OutOfRange, behind_header}
use Rattle.table.proofs.Judged.{Few, no_misfit}
use Rattle.table.proofs.Named.{number_apart}
use Rattle.table.specs.Steps.{added, PlaceFor}
use Rattle.table.proofs.Stored.{counts_nodes, has_place, added_records}

pub record Kept (bytes : List ℕ) (at : ℕ) (s : Seen) (rs : Table) : Type 0 where
  pub run : Run
  pub sound : Sound run
  pub bytes_are : bytes ≡ encoding run ++ drop at bytes
  pub at_is : at ≡ length (encoding run)
  pub seen_is : s ≡ seen run
  pub records_are : rs ≡ records run

abbrev pub Bytes : List ℕ → Type 0
Bytes bytes = (i : ℕ) → get_or bytes i 0 < 256

pub kept_first : (bytes : List ℕ) → Kept bytes 0 (record { tasks = 0; nodes = 0; arcs = 0 }) (records begin)
kept_first bytes = record { run = begin; sound = tt; bytes_are = refl; at_is = refl; seen_is = refl; records_are = refl }

-- the header of a kind, from what the bytes tell
two_told : (a b n : ℕ) → a < 256 → b < 256 → n < 256 → a + 256 * b ≡ n → (a ≡ n) × (b ≡ 0)
two_told a b n p q r e = (omega arith, omega arith)

small_size : (k : Kind) → (size k < 256) × (number k < 256) × (4 ≤ size k) × (two_bytes (size k) ≡ size k ∷ 0 ∷ []) × (two_bytes (number k) ≡ number k ∷ 0 ∷ [])
small_size OfTask = (omega arith, omega arith, omega arith, refl, refl)
small_size OfNode = (omega arith, omega arith, omega arith, refl, refl)
small_size OfArc = (omega arith, omega arith, omega arith, refl, refl)

four : (l : List ℕ) → 4 ≤ length l → l ≡ get_or l 0 0 ∷ get_or l 1 0 ∷ get_or l 2 0 ∷ get_or l 3 0 ∷ drop 4 l
four [] h = absurd (omega arith)
four (a ∷ []) h = absurd (omega arith)
four (a ∷ b ∷ []) h = absurd (omega arith)
four (a ∷ b ∷ c ∷ []) h = absurd (omega arith)
four (a ∷ b ∷ c ∷ d ∷ l) h = refl

stands : (rest : List ℕ) (s : Seen) (k : Kind) → Bytes rest → Laid s rest k
    → rest ≡ (two_bytes (size k) ++ two_bytes (number k)) ++ drop 4 rest
stands rest s k bs laid =
    let sm = small_size k in
    let l = two_told (get_or rest 0 0) (get_or rest 1 0) (size k) (bs 0) (bs 1) sm.0 laid.roomy.allowed.measured.length_told in
    let n = two_told (get_or rest 2 0) (get_or rest 3 0) (number k) (bs 2) (bs 3) sm.1 laid.roomy.allowed.measured.named.names in
    let f = four rest laid.roomy.allowed.measured.named.header in
    let e : (two_bytes (size k) ++ two_bytes (number k)) ++ drop 4 rest ≡ size k ∷ 0 ∷ number k ∷ 0 ∷ drop 4 rest
    = ap (λ (l : List ℕ). (l ++ two_bytes (number k)) ++ drop 4 rest) sm.3 ∙ ap (λ (l : List ℕ). size k ∷ 0 ∷ (l ++ drop 4 rest)) sm.4 in
    let l0 = l.0 in let l1 = l.1 in let n0 = n.0 in let n1 = n.1 in
    cc

-- the record x stands at the start of the rest
pub record_stands : (rest : List ℕ) (s : Seen) (k : Kind) (x : Record) → Bytes rest → Laid s rest k
    → kind x ≡ k → take (size k - 4) (drop 4 rest) ≡ fields x → rest ≡ encode x ++ drop (size k) rest
record_stands rest s k x bs laid e f =
    let a : rest ≡ (two_bytes (size k) ++ two_bytes (number k)) ++ drop 4 rest = stands rest s k bs laid in
    let b : take (size k - 4) (drop 4 rest) ++ drop (size k - 4) (drop 4 rest) ≡ drop 4 rest = take-append-drop (size k - 4) (drop 4 rest) in
    let sm = small_size k in
    let n : 4 + (size k - 4) ≡ size k = omega (arith, sm.2) in
    let d : drop (size k - 4) (drop 4 rest) ≡ drop (size k) rest = drop-drop (size k - 4) 4 rest ∙ ap (λ (j : ℕ). drop j rest) n in
    let g : drop 4 rest ≡ fields x ++ drop (size k) rest = cc in
    let h : (two_bytes (size (kind x)) ++ two_bytes (number (kind x))) ++ (fields x ++ drop (size k) rest) ≡ encode x ++ drop (size k) rest
    = sym (append_assoc (two_bytes (size (kind x)) ++ two_bytes (number (kind x))) (fields x) (drop (size k) rest)) in
    a ∙ ap (λ (j : List ℕ). (two_bytes (size k) ++ two_bytes (number k)) ++ j) g ∙ ap (λ (j : Kind). (two_bytes (size j) ++ two_bytes (number j)) ++ (fields x ++ drop (size k) rest)) (sym e) ∙ h

pub encoded_kind : (r : Record) (more : List ℕ) → told (encode r ++ more) 2 ≡ number (kind r)
encoded_kind (task t) more = refl
encoded_kind (node n) more = refl
encoded_kind (arc a) more = refl

pub encoded_length : (r : Record) (more : List ℕ) → told (encode r ++ more) 0 ≡ size (kind r)
encoded_length (task t) more = refl
encoded_length (node n) more = refl
encoded_length (arc a) more = refl

pub encoded_fields : (r : Record) (more : List ℕ) → take (size (kind r) - 4) (drop 4 (encode r ++ more)) ≡ fields r
encoded_fields (task t) more = refl
encoded_fields (node n) more = refl
encoded_fields (arc a) more = refl

pub length_encode : (r : Record) → length (encode r) ≡ size (kind r)
length_encode (task t) = refl
length_encode (node n) = refl
length_encode (arc a) = refl

pub same_kind : (rest : List ℕ) (k : Kind) (r : Record) (more : List ℕ) → told rest 2 ≡ number k → rest ≡ encode r ++ more → kind r ≡ k
same_kind rest k r more n e = number_apart (kind r) k (sym (encoded_kind r more) ∙ sym (ap (λ (l : List ℕ). told l 2) e) ∙ n)

-- no record in range stands there, if some field does not fit
pub misfit_stands : (rest : List ℕ) (s : Seen) (k : Kind) (m : Misfit) → Laid s rest k → Misfits s.nodes k (behind_header k rest) m
    → OutOfRange s.nodes rest
misfit_stands rest s k m laid misfits r more in_range e =
    let same : kind r ≡ k = same_kind rest k r more laid.roomy.allowed.measured.named.names e in
    let bytes : behind_header (kind r) rest ≡ fields r =
    ap (λ (l : List ℕ). behind_header (kind r) l) e ∙ encoded_fields r more in
    no_misfit s.nodes r m.field (few (kind r) (subst (λ (j : Kind). Room s j) (sym same) laid.roomy.room)) in_range
    (subst (λ (l : List ℕ). FirstOut s.nodes l (fields_of (kind r)) m.field) bytes
    (subst (λ (j : Kind). FirstOut s.nodes (behind_header j rest) (fields_of j) m.field) (sym same) misfits.first))
  where
    few : (j : Kind) → Room s j → Few s.nodes j
    few OfTask h = tt
    few OfNode h = omega (arith, h)
    few OfArc h = tt

rest_bytes : (bytes : List ℕ) (at : ℕ) → Bytes bytes → Bytes (drop at bytes)
rest_bytes bytes at bs i = subst (λ (v : ℕ). v < 256) (sym (get_or-drop at bytes i 0)) (bs (at + i))

pub place_kept : (bytes : List ℕ) (at : ℕ) (s : Seen) (rs : Table) (k : Kind) → Kept bytes at s rs
    → Laid s (drop at bytes) k → PlaceFor rs k
place_kept bytes at s rs k kept laid =
    subst (λ (r : Table). PlaceFor r k) (sym kept.records_are)
    (has_place kept.run k (subst (λ (t : Seen). Room t k) kept.seen_is laid.roomy.room))

count_kept : (bytes : List ℕ) (at : ℕ) (s : Seen) (rs : Table) → Kept bytes at s rs → rs.nodes.len ≡ s.nodes
count_kept bytes at s rs kept =
    ap (λ (r : Table). r.nodes.len) kept.records_are ∙ sym (counts_nodes kept.run) ∙ sym (ap (λ (t : Seen). t.nodes) kept.seen_is)

pub kept_next : (bytes : List ℕ) (at : ℕ) (s : Seen) (rs : Table) (k : Kind) (fs : List ℕ) (x : Record)
    → Bytes bytes → Kept bytes at s rs → Laid s (drop at bytes) k → fs ≡ take (size k - 4) (drop 4 (drop at bytes))
    → kind x ≡ k → InRange rs.nodes.len x → fs ≡ fields x → Kept bytes (at + size k) (counted s k) (added rs x)
kept_next bytes at s rs k fs x bs kept laid part e in_range f =
    let rest = drop at bytes in
    let inside : take (size k - 4) (drop 4 rest) ≡ fields x = sym part ∙ f in
    let here : rest ≡ encode x ++ drop (size k) rest = record_stands rest s k x (rest_bytes bytes at bs) laid e inside in
    let after : drop (size k) rest ≡ drop (at + size k) bytes = drop-drop (size k) at bytes in
    let in_turn = subst (λ (t : Seen). Next t x) kept.seen_is
    (record { in_turn = subst (λ (j : Kind). InTurn s j) (sym e) laid.roomy.allowed.in_turn; room = subst (λ (j : Kind). Room s j) (sym e) laid.roomy.room; in_range = subst (λ (m : ℕ). InRange m x) (count_kept bytes at s rs kept) in_range }) in
    record {
      run = kept.run then x;
      sound = (kept.sound, in_turn);
      bytes_are =
          kept.bytes_are ∙ ap (λ (l : List ℕ). encoding kept.run ++ l) (here ∙ ap (λ (l : List ℕ). encode x ++ l) after)
          ∙ sym (append_assoc (encoding kept.run) (encode x) (drop (at + size k) bytes));
      at_is = omega (arith, kept.at_is, length-append (encoding kept.run) (encode x), length_encode x, ap size e);
      seen_is = ap (λ (t : Seen). counted t k) kept.seen_is ∙ ap (counted (seen kept.run)) (sym e);
      records_are = ap (λ (r : Table). added r x) kept.records_are ∙ added_records kept.run x in_turn.room;
    }

pub kept_ends : (bytes : List ℕ) (at : ℕ) (s : Seen) (rs : Table) → Kept bytes at s rs → at ≡ length bytes → 1 ≤ s.nodes → Encodes bytes rs
kept_ends bytes at s rs kept end has = go (whole_run kept.run kept.sound)
  where
    some : 1 ≤ (seen kept.run).nodes
    some = subst (λ (t : Seen). 1 ≤ t.nodes) kept.seen_is has

    go : (kept.run ≡ begin) ⊎ Whole (timing kept.run) (nodes kept.run) (arcs kept.run) kept.run → Encodes bytes rs
    go (inl e) = absurd (omega (arith, some, ap (λ (r : Run). (seen r).nodes) e))
    go (inr w) = record {
      timing = timing kept.run;
      nodes = nodes kept.run;
      arcs = arcs kept.run;
      lawful = lawful_whole (timing kept.run) (nodes kept.run) (arcs kept.run) kept.run w (omega (arith, some, counts_nodes kept.run));
      bytes_are =
          kept.bytes_are ∙ ap (λ (l : List ℕ). encoding kept.run ++ l) (drop_all at bytes (omega arith)) ∙ append-nil (encoding kept.run)
          ∙ w.bytes_are;
      holds = kept.records_are;
    }

pub kept_faulty : (bytes : List ℕ) (at : ℕ) (s : Seen) (rs : Table) (f : LayoutFault) → Kept bytes at s rs → Faulty s (drop at bytes) f
    → LayoutAt bytes at f
kept_faulty bytes at s rs f kept faulty =
    record {
      run = kept.run;
      rest = drop at bytes;
      stops = record { sound = kept.sound; bytes_are = kept.bytes_are; offset_is = kept.at_is };
      faulty = subst (λ (t : Seen). Faulty t (drop at bytes) f) kept.seen_is faulty;
    }

pub kept_out : (bytes : List ℕ) (at : ℕ) (s : Seen) (rs : Table) (k : Kind) (fs : List ℕ) (m : Misfit) → Kept bytes at s rs
    → Laid s (drop at bytes) k → fs ≡ behind_header k (drop at bytes) → Misfits rs.nodes.len k fs m → RangeAt bytes at m
kept_out bytes at s rs k fs m kept laid part misfits =
    let rest = drop at bytes in
    let here : Laid (seen kept.run) rest k = subst (λ (t : Seen). Laid t rest k) kept.seen_is laid in
    let wrong : Misfits (seen kept.run).nodes k (behind_header k rest) m =
    subst (λ (j : ℕ). Misfits j k (behind_header k rest) m) (count_kept bytes at s rs kept ∙ ap (λ (t : Seen). t.nodes) kept.seen_is)
    (subst (λ (l : List ℕ). Misfits rs.nodes.len k l m) part misfits) in
    record {
      run = kept.run;
      rest = rest;
      stops = record { sound = kept.sound; bytes_are = kept.bytes_are; offset_is = kept.at_is };
      kind = k;
      laid = here;
      out_of_range = misfit_stands rest (seen kept.run) k m here wrong;
      misfits = wrong;
    }

pub fields_long : (bytes : List ℕ) (at : ℕ) (s : Seen) (k : Kind) (fs : List ℕ) → Laid s (drop at bytes) k → fs ≡ behind_header k (drop at bytes)
    → length fs ≡ size k - 4
fields_long bytes at s k fs laid part =
    let rest = drop at bytes in
    ap length part ∙ length-take-le (size k - 4) (drop 4 rest) (omega (arith, laid.whole, length-drop 4 rest))
