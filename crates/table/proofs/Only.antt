-- Only one answer is right for a table: two sound runs that it begins with agree as far as both go, and where one stops no record goes on.
use Rattle.std.proofs.Common.{◌≡◌, ℕ, ◌≤◌, ◌⊎◌, List, [], ◌∷◌, ◌++◌, length, Ok, Err, Result, sym, refl, ap, ◌∙◌, subst, inl, inr, arith, length-append}
use Rattle.std.proofs.lemmas.List.{append-nil, append_assoc, append_cancel_left}
use Rattle.table.specs.declared.records.Kind.TheVariants.{OfTask, OfNode, OfArc}
use Rattle.table.specs.declared.records.Kind.{Kind}
use Rattle.table.specs.declared.reader.Seen.{Seen}
use Rattle.table.specs.declared.records.Table.{Table}
use Rattle.table.specs.declared.fault.Fault.{Fault}
use Rattle.table.specs.declared.fault.Fault.TheVariants.{Layout, Range}
use Rattle.table.specs.Format.{Record, kind, size, encode}
use Rattle.table.specs.Run.{Run, begin, ◌then◌, encoding, seen, Next, Sound}
use Rattle.table.proofs.Runs.{records}
use Rattle.table.proofs.Tables.{made, whole_records, nodes_count, tasks_are}
use Rattle.table.specs.declared.fault.LayoutFault.{LayoutFault}
use Rattle.table.specs.declared.fault.Misfit.{Misfit}
use Rattle.table.specs.Layout.{told, Laid, Faulty}
use Rattle.table.specs.declared.fault.Field.{Field}
use Rattle.table.specs.Fields.{Misfits, fields_of, value}
use Rattle.table.specs.Reading.{OutOfRange, behind_header, Reads}
use Rattle.table.proofs.Flaws.{one_fault, laid_faulty, end_faulty}
use Rattle.table.proofs.Judged.{one_out}
use Rattle.table.proofs.Named.{one_kind}
use Rattle.table.proofs.Kept.{encoded_kind, encoded_length, length_encode}
use Rattle.table.proofs.Apart.{next_written, encodes_one}

-- a run and further records
abbrev extend : Run → List Record → Run
extend run [] = run
extend run (r ∷ rs) = extend (run then r) rs

abbrev all : List Record → List ℕ
all [] = []
all (r ∷ rs) = encode r ++ all rs

encoding_extend : (run : Run) (rs : List Record) → encoding (extend run rs) ≡ encoding run ++ all rs
encoding_extend run [] = sym (append-nil (encoding run))
encoding_extend run (r ∷ rs) = encoding_extend (run then r) rs ∙ append_assoc (encoding run) (encode r) (all rs)

extend_push : (run : Run) (rs : List Record) (r : Record) → extend run (rs ++ (r ∷ [])) ≡ (extend run rs then r)
extend_push run [] r = refl
extend_push run (x ∷ rs) r = extend_push (run then x) rs r

sound_before : (run : Run) (rs : List Record) → Sound (extend run rs) → Sound run
sound_before run [] h = h
sound_before run (r ∷ rs) h = (sound_before (run then r) rs h).0

abbrev listed : Run → List Record
listed begin = []
listed (run then r) = listed run ++ (r ∷ [])

listed_is : (run : Run) → run ≡ extend begin (listed run)
listed_is begin = refl
listed_is (run then r) = ap (λ (q : Run). q then r) (listed_is run) ∙ sym (extend_push begin (listed run) r)

-- what stands after p, if q goes on from it by r
goes_on : (p q : Run) (r : Record) (rs : List Record) (u v : List ℕ) → q ≡ extend (p then r) rs
    → encoding p ++ u ≡ encoding q ++ v → u ≡ encode r ++ (all rs ++ v)
goes_on p q r rs u v h e =
    append_cancel_left (encoding p) u (encode r ++ (all rs ++ v))
    (e ∙ ap (λ (x : Run). encoding x ++ v) h
    ∙ ap (λ (l : List ℕ). l ++ v) (encoding_extend p (r ∷ rs))
    ∙ append_assoc (encoding p) (encode r ++ all rs) v
    ∙ ap (λ (l : List ℕ). encoding p ++ l) (append_assoc (encode r) (all rs) v))

next_after : (p q : Run) (r : Record) (rs : List Record) → Sound q → q ≡ extend (p then r) rs → Next (seen p) r
next_after p q r rs sq h = (sound_before (p then r) rs (subst Sound h sq)).1

abbrev Agree : Run → Run → Type 0
Agree p q = ((rs : List Record) × (q ≡ extend p rs)) ⊎ ((rs : List Record) × (p ≡ extend q rs))

agree : (p q : Run) (u v : List ℕ) → Sound p → Sound q → encoding p ++ u ≡ encoding q ++ v → Agree p q
agree begin q u v sp sq e = inl (listed q, listed_is q)
agree (p then r) q u v sp sq e =
    go (agree p q (encode r ++ u) v sp.0 sq e')
  where
    e' : encoding p ++ (encode r ++ u) ≡ encoding q ++ v
    e' = sym (append_assoc (encoding p) (encode r) u) ∙ e

    go : Agree p q → Agree (p then r) q
    go (inl ([], h)) = inr (r ∷ [], ap (λ (x : Run). x then r) (sym h))
    go (inl (s ∷ rs, h)) =
        let one = encodes_one r s u (all rs ++ v) (next_written (seen p) r sp.1) (next_written (seen p) s (next_after p q s rs sq h))
        (goes_on p q s rs (encode r ++ u) v h e') in
        inl (rs, h ∙ ap (λ (x : Record). extend (p then x) rs) (sym one.0))
    go (inr (rs, h)) = inr (rs ++ (r ∷ []), ap (λ (x : Run). x then r) h ∙ sym (extend_push q rs r))

-- a run stops: at the end, at a fault in layout, or at a record out of range
data Stop (s : Seen) (rest : List ℕ) : Type 0 where
  at_end : rest ≡ [] → 1 ≤ s.tasks → 1 ≤ s.nodes → Stop s rest
  at_fault : (f : LayoutFault) → Faulty s rest f → Stop s rest
  at_range : (k : Kind) (m : Misfit) → Laid s rest k → OutOfRange s.nodes rest → Misfits s.nodes k (behind_header k rest) m
      → Stop s rest

next_laid : (s : Seen) (r : Record) (more rest : List ℕ) → Next s r → rest ≡ encode r ++ more → Laid s rest (kind r)
next_laid s r more rest n e =
    let long : size (kind r) ≤ length rest = omega (arith, ap length e, length-append (encode r) more, length_encode r) in
    record {
      roomy = record {
        allowed = record {
          measured = record {
            named = record { header = omega (arith, at_least_four (kind r)); names = ap (λ (l : List ℕ). told l 2) e ∙ encoded_kind r more };
            length_told = ap (λ (l : List ℕ). told l 0) e ∙ encoded_length r more;
          };
          in_turn = n.in_turn;
        };
        room = n.room;
      };
      whole = long;
    }
  where
    at_least_four : (k : Kind) → 4 ≤ size k
    at_least_four OfTask = omega arith
    at_least_four OfNode = omega arith
    at_least_four OfArc = omega arith

end_laid : (s : Seen) (rest : List ℕ) (k : Kind) → rest ≡ [] → Laid s rest k → ⊥
end_laid s rest k e l = omega (arith, l.roomy.allowed.measured.named.header, ap length e)

no_next : (s : Seen) (rest : List ℕ) → Stop s rest → (r : Record) (more : List ℕ) → Next s r → rest ≡ encode r ++ more → ⊥
no_next s rest (at_end e t h) r more n f = end_laid s rest (kind r) e (next_laid s r more rest n f)
no_next s rest (at_fault g h) r more n f = laid_faulty s rest (kind r) g (next_laid s r more rest n f) h
no_next s rest (at_range k m l h w) r more n f = h r more n.in_range f

one_run : (p q : Run) (u v : List ℕ) → Sound p → Sound q → Stop (seen p) u → Stop (seen q) v
    → encoding p ++ u ≡ encoding q ++ v → (p ≡ q) × (u ≡ v)
one_run p q u v sp sq hp hq e = go (agree p q u v sp sq e)
  where
    same : p ≡ q → (p ≡ q) × (u ≡ v)
    same h = (h, append_cancel_left (encoding p) u v (e ∙ ap (λ (x : Run). encoding x ++ v) (sym h)))

    go : Agree p q → (p ≡ q) × (u ≡ v)
    go (inl ([], h)) = same (sym h)
    go (inl (r ∷ rs, h)) = absurd (no_next (seen p) u hp r (all rs ++ v) (next_after p q r rs sq h) (goes_on p q r rs u v h e))
    go (inr ([], h)) = same h
    go (inr (r ∷ rs, h)) = absurd (no_next (seen q) v hq r (all rs ++ u) (next_after q p r rs sp h) (goes_on q p r rs v u h (sym e)))

abbrev answer : (run : Run) (rest : List ℕ) → Stop (seen run) rest → Result Table Fault
answer run rest (at_end e t h) = Ok (records run)
answer run rest (at_fault f h) = Err (Layout (length (encoding run)) f)
answer run rest (at_range k m l h w) = Err (Range (length (encoding run)) m)

one_misfit : (nodes : ℕ) (rest : List ℕ) (j k : Kind) (m n : Misfit) → j ≡ k → Misfits nodes j (behind_header j rest) m
    → Misfits nodes k (behind_header k rest) n → m ≡ n
one_misfit nodes rest j k m n e a b =
    let a' = subst (λ (i : Kind). Misfits nodes i (behind_header i rest) m) e a in
    let field : m.field ≡ n.field = one_out nodes (behind_header k rest) (fields_of k) m.field n.field a'.first b.first in
    let told : m.value ≡ n.value =
    a'.value_is ∙ ap (λ (f : Field). value f (behind_header k rest)) field ∙ sym b.value_is in
    let whole : ◌≡◌ {A = Misfit} record { field = m.field; value = m.value } record { field = n.field; value = n.value } = cc in
    whole

one_answer : (run : Run) (rest : List ℕ) (a b : Stop (seen run) rest) → answer run rest a ≡ answer run rest b
one_answer run rest (at_end e t n) (at_end f u m) = refl
one_answer run rest (at_end e t n) (at_fault f h) = absurd (end_faulty (seen run) rest f e t n h)
one_answer run rest (at_end e t n) (at_range k m l h w) = absurd (end_laid (seen run) rest k e l)
one_answer run rest (at_fault f h) (at_end e t n) = absurd (end_faulty (seen run) rest f e t n h)
one_answer run rest (at_fault f h) (at_fault g i) =
    ap (λ (x : LayoutFault). Err (Layout (length (encoding run)) x)) (one_fault (seen run) rest f g h i)
one_answer run rest (at_fault f g) (at_range k m l h w) = absurd (laid_faulty (seen run) rest k f l g)
one_answer run rest (at_range k m l h w) (at_end f t n) = absurd (end_laid (seen run) rest k f l)
one_answer run rest (at_range k m l h w) (at_fault f g) = absurd (laid_faulty (seen run) rest k f l g)
one_answer run rest (at_range k m l h w) (at_range j n i g v) =
    ap (λ (x : Misfit). Err (Range (length (encoding run)) x))
    (one_misfit (seen run).nodes rest k j m n
    (one_kind rest k j l.roomy.allowed.measured.named i.roomy.allowed.measured.named) w v)

-- a right answer, by the run that it rests on
record Rests (bytes : List ℕ) (a : Result Table Fault) : Type 0 where
  run : Run
  rest : List ℕ
  sound : Sound run
  bytes_are : bytes ≡ encoding run ++ rest
  stop : Stop (seen run) rest
  answer_is : a ≡ answer run rest stop

rests : (bytes : List ℕ) (a : Result Table Fault) → Reads bytes a → Rests bytes a
rests bytes (Ok rs) h =
    let m = made h.timing h.nodes h.arcs h.lawful in
    let w = m.whole in
    record {
      run = m.run;
      rest = [];
      sound = m.sound;
      bytes_are = h.bytes_are ∙ sym w.bytes_are ∙ sym (append-nil (encoding m.run));
      stop = at_end refl (omega (arith, tasks_are h.timing h.nodes h.arcs m.run w))
          (omega (arith, h.lawful.some_node, nodes_count h.timing h.nodes h.arcs m.run w));
      answer_is = ap Ok (h.holds ∙ sym (whole_records h.timing h.nodes h.arcs m.run w));
    }
rests bytes (Err (Layout offset fault)) h = record {
  run = h.run;
  rest = h.rest;
  sound = h.stops.sound;
  bytes_are = h.stops.bytes_are;
  stop = at_fault fault h.faulty;
  answer_is = ap (λ (o : ℕ). Err (Layout o fault)) h.stops.offset_is;
}
rests bytes (Err (Range offset misfit)) h = record {
  run = h.run;
  rest = h.rest;
  sound = h.stops.sound;
  bytes_are = h.stops.bytes_are;
  stop = at_range h.kind misfit h.laid h.out_of_range h.misfits;
  answer_is = ap (λ (o : ℕ). Err (Range o misfit)) h.stops.offset_is;
}

same_answer : (p q : Run) (u v : List ℕ) (a : Stop (seen p) u) (b : Stop (seen q) v) → p ≡ q → u ≡ v → answer p u a ≡ answer q v b
same_answer p q u v a b e f =
    subst (λ (w : List ℕ). (b : Stop (seen q) w) → answer p u a ≡ answer q w b) f
    (subst (λ (x : Run). (b : Stop (seen x) u) → answer p u a ≡ answer x u b) e (one_answer p u a)) b

pub only : (bytes : List ℕ) (a : Result Table Fault) → Reads bytes a → (b : Result Table Fault) → Reads bytes b → b ≡ a
only bytes a ha b hb =
    let x = rests bytes a ha in
    let y = rests bytes b hb in
    let one = one_run y.run x.run y.rest x.rest y.sound x.sound y.stop x.stop (sym y.bytes_are ∙ x.bytes_are) in
    y.answer_is ∙ same_answer y.run x.run y.rest x.rest y.stop x.stop one.0 one.1 ∙ sym x.answer_is
