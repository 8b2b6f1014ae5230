-- How a draft grows by its statements.
use Rattle.std.proofs.Common.{◌≡◌, ℕ, zero, suc, ◌+◌, ◌<◌, true, false, List, [], ◌∷◌, ◌++◌, length, get_or, take, set, None, Some, vec_items, Option, Vec, sym, refl, ap, ◌∙◌, arith}
use Rattle.std.specs.declared.alloc.Global.{Global}
use Rattle.std.proofs.lemmas.List.{append-nil, nil_from_length, map-append, length-set, take_all, take_more, take_more_set}
use Rattle.table.specs.Format.{Record, encode}
use Rattle.table.specs.Format.{node as node_record, arc as arc_record}
use Rattle.plans.specs.declared.draft.Draft.{Draft}
use Rattle.plans.specs.declared.plan.Entry.{Entry}
use Rattle.plans.specs.declared.plan.Precedence.{Precedence}
use Rattle.plans.specs.declared.plan.Source.{Source}
use Rattle.plans.specs.declared.plan.Source.TheVariants.{Written, File}
use Rattle.plans.specs.Drafts.{Drafted, RecordOf}
use Rattle.plans.specs.Entries.{Placed, ToldSource, ToldEntry, told_source, told_entry, told_entries, written, source_of, cores_in, order_in, or_else, last_said, entries, OpenTask, Fits}
use Rattle.plans.specs.Parsed.{OfTable}
use Rattle.plans.specs.Statements.{Word, ToldTable, Said, cores, order, task, node, arc}
use Rattle.plans.proofs.Gathering.{last_said_more, entries_more, Records, record_more, shut_without, shut_by_file, open_written}

same_last : {A : Type 0} (says : Said → Option A) (ps : List Placed) (line : ℕ) (s : Said) → says s ≡ None
    → last_said says ps ≡ last_said says (ps ++ record { line = line; said = s } ∷ [])
same_last {A} says ps line s e =
    sym (last_said_more says ps (record { line = line; said = s }) ∙ ap (λ (o : Option A). or_else o (last_said says ps)) e)

told_push : (es fs : List Entry) (e : Entry) → fs ≡ es ++ e ∷ [] → told_entries fs ≡ told_entries es ++ told_entry e ∷ []
told_push es fs e f = ap told_entries f ∙ map-append told_entry es (e ∷ [])

-- the last entry, which stands at i
module _ (es : List Entry) (i : ℕ) (many : length es ≡ i + 1) where
  told_last : (e : Entry) → e ≡ get_or es i e → told_entries es ≡ told_entries (take i es) ++ told_entry e ∷ []
  told_last e at =
      told_push (take i es) es e
      (sym (take_all (i + 1) es (omega arith)) ∙ take_more es i e (omega arith) ∙ ap (λ (x : Entry). take i es ++ x ∷ []) (sym at))

  told_set : (e : Entry) → told_entries (set es i e) ≡ told_entries (take i es) ++ told_entry e ∷ []
  told_set e =
      told_push (take i es) (set es i e) e
      (sym (take_all (i + 1) (set es i e) (omega (arith, length-set es i e))) ∙ take_more_set es i e (omega arith))

module _ (d e : Draft) (ps : List Placed) (line : ℕ) (k : Drafted d ps) where
  -- cores and the order

  pub cores_taken : (n : ℕ) → e.cores ≡ Some n → e.order ≡ d.order → e.entries ≡ d.entries → Drafted e (ps ++ record { line = line; said = cores n } ∷ [])
  cores_taken n c o es =
      let p : Placed = record { line = line; said = cores n } in
      record {
        cores_kept = c ∙ sym (last_said_more cores_in ps p);
        order_kept = o ∙ k.order_kept ∙ same_last order_in ps line (cores n) refl;
        entries_kept = ap (λ (v : Vec Entry Global). told_entries (vec_items v)) es ∙ k.entries_kept ∙ sym (entries_more ps p refl ∙ append-nil (entries ps));
      }

  pub order_taken : (x : Precedence) → e.cores ≡ d.cores → e.order ≡ Some x → e.entries ≡ d.entries → Drafted e (ps ++ record { line = line; said = order x } ∷ [])
  order_taken x c o es =
      let p : Placed = record { line = line; said = order x } in
      record {
        cores_kept = c ∙ k.cores_kept ∙ same_last cores_in ps line (order x) refl;
        order_kept = o ∙ sym (last_said_more order_in ps p);
        entries_kept = ap (λ (v : Vec Entry Global). told_entries (vec_items v)) es ∙ k.entries_kept ∙ sym (entries_more ps p refl ∙ append-nil (entries ps));
      }

  -- a task, its entry behind the others

  pub task_taken : (name : Word) (slot : ℕ) (t : ToldTable) (made : Entry) → e.cores ≡ d.cores → e.order ≡ d.order
      → vec_items e.entries ≡ vec_items d.entries ++ made ∷ [] → told_entry made ≡ record { name = name; slot = slot; line = line; source = source_of t [] }
      → Drafted e (ps ++ record { line = line; said = task name slot t } ∷ [])
  task_taken name slot t made c o es same =
      let s : Said = task name slot t in
      record {
        cores_kept = c ∙ k.cores_kept ∙ same_last cores_in ps line s refl;
        order_kept = o ∙ k.order_kept ∙ same_last order_in ps line s refl;
        entries_kept = told_push (vec_items d.entries) (vec_items e.entries) made es
            ∙ ap (λ (l : List ToldEntry). l ++ told_entry made ∷ []) k.entries_kept
            ∙ ap (λ (x : ToldEntry). entries ps ++ x ∷ []) same
            ∙ sym (entries_more ps (record { line = line; said = s }) refl);
      }

  -- a record, behind those of the last entry

  recorded : (s : Said) (r : Record) → Records (record { line = line; said = s }) r → cores_in s ≡ None → order_in s ≡ None
      → (before : List ToldEntry) (last : ToldEntry) (bytes : List ℕ) → e.cores ≡ d.cores → e.order ≡ d.order
      → entries ps ≡ before ++ last ∷ [] → last.source ≡ written bytes
      → told_entries (vec_items e.entries) ≡ before ++ record { name = last.name; slot = last.slot; line = last.line; source = written (bytes ++ encode r) } ∷ []
      → OpenTask ps × Drafted e (ps ++ record { line = line; said = s } ∷ [])
  recorded s r records no_cores no_order before last bytes c o is from es =
      let opened = open_written ps before last bytes is from in (
        opened,
        record {
          cores_kept = c ∙ k.cores_kept ∙ same_last cores_in ps line s no_cores;
          order_kept = o ∙ k.order_kept ∙ same_last order_in ps line s no_order;
          entries_kept = es ∙ sym (
              record_more (record { line = line; said = s }) r records ps opened.0 before last.name last.slot last.line bytes opened.1
              (is ∙ ap (λ (x : ToldSource). before ++ record { name = last.name; slot = last.slot; line = last.line; source = x } ∷ []) from)
              );
        },
      )

  module _ (i : ℕ) (x : Entry) (many : length (vec_items d.entries) ≡ i + 1) (at : x ≡ get_or (vec_items d.entries) i x) where
    pub record_taken : (s : Said) (bytes : List ℕ) (table more : Vec ℕ Global) → RecordOf s bytes → x.source ≡ Written table
        → e.cores ≡ d.cores → e.order ≡ d.order
        → vec_items e.entries ≡ set (vec_items d.entries) i (record { name = x.name; slot = x.slot; line = x.line; source = Written more })
        → vec_items more ≡ vec_items table ++ bytes → Fits ps s × Drafted e (ps ++ record { line = line; said = s } ∷ [])
    record_taken s bytes table more is from c o es grown = go s is
      where
        added : (r : Record) → bytes ≡ encode r → told_entries (vec_items e.entries)
            ≡ told_entries (take i (vec_items d.entries)) ++ record { name = x.name.now; slot = x.slot; line = x.line; source = written (vec_items table ++ encode r) } ∷ []
        added r b =
            ap told_entries es ∙ told_set (vec_items d.entries) i many (record { name = x.name; slot = x.slot; line = x.line; source = Written more })
            ∙ ap (λ (l : List ℕ). told_entries (take i (vec_items d.entries)) ++ record { name = x.name.now; slot = x.slot; line = x.line; source = written l } ∷ [])
            (grown ∙ ap (λ (l : List ℕ). vec_items table ++ l) b)

        go : (s : Said) → RecordOf s bytes → Fits ps s × Drafted e (ps ++ record { line = line; said = s } ∷ [])
        go (cores n) is = absurd is
        go (order y) is = absurd is
        go (task name slot t) is = absurd is
        go (node n) is =
            recorded (node n) (node_record n) (record { ahead = λ behind. refl; no_entry = λ rs others. refl }) refl refl
            (told_entries (take i (vec_items d.entries))) (told_entry x) (vec_items table) c o (sym k.entries_kept ∙ told_last (vec_items d.entries) i many x at)
            (ap told_source from) (added (node_record n) is)
        go (arc a) is =
            recorded (arc a) (arc_record a) (record { ahead = λ behind. refl; no_entry = λ rs others. refl }) refl refl
            (told_entries (take i (vec_items d.entries))) (told_entry x) (vec_items table) c o (sym k.entries_kept ∙ told_last (vec_items d.entries) i many x at)
            (ap told_source from) (added (arc_record a) is)

of_table : (s : Said) (bytes : List ℕ) → RecordOf s bytes → OfTable s
of_table (cores n) bytes is = is
of_table (order o) bytes is = is
of_table (task name slot t) bytes is = is
of_table (node n) bytes is = tt
of_table (arc a) bytes is = tt

-- no task is open: there is no entry, or the last is in a file
pub record_shut : (d : Draft) (ps : List Placed) (s : Said) (bytes : List ℕ) (n : ℕ) → Drafted d ps → RecordOf s bytes → n ≡ length (vec_items d.entries)
    → (0 < n → false ≡ true) → OfTable s × (OpenTask ps → ⊥)
record_shut d ps s bytes n k is many none =
    (of_table s bytes is, shut_without ps (sym k.entries_kept ∙ ap told_entries (nil_from_length (vec_items d.entries) (sym many ∙ go n none))))
  where
    go : (n : ℕ) → (0 < n → false ≡ true) → n ≡ 0
    go zero h = refl
    go (suc n) h = let e : false ≡ true = h (omega arith) in cc

pub record_barred : (d : Draft) (ps : List Placed) (s : Said) (bytes : List ℕ) (i : ℕ) (x : Entry) → Drafted d ps → RecordOf s bytes → length (vec_items d.entries) ≡ i + 1
    → x ≡ get_or (vec_items d.entries) i x → ((v : Vec ℕ Global) → x.source ≡ Written v → ⊥) → OfTable s × (OpenTask ps → ⊥)
record_barred d ps s bytes i x k is many at barred = (of_table s bytes is, go x.source refl)
  where
    go : (y : Source) → x.source ≡ y → OpenTask ps → ⊥
    go (Written v) from = absurd (barred v from)
    go (File name) from =
        shut_by_file ps (told_entries (take i (vec_items d.entries))) (told_entry x) name.now
        (sym k.entries_kept ∙ told_last (vec_items d.entries) i many x at) (ap told_source from)
