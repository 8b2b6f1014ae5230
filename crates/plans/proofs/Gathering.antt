-- What one statement more adds to a plan.
use Rattle.std.proofs.Common.{◌≡◌, ℕ, List, [], ◌∷◌, ◌++◌, length, Some, None, Option, sym, refl, ap, ◌∙◌, subst, arith}
use Rattle.std.specs.List.{flat_map}
use Rattle.std.proofs.lemmas.List.{append-nil, append_assoc, flat_map_more, length-append, same_from_push}
use Rattle.table.specs.declared.records.Timing.{Timing}
use Rattle.table.specs.Format.{Record, encode}
use Rattle.table.specs.Format.{task as task_record}
use Rattle.plans.specs.Entries.{Placed, ToldSource, written, file, ToldEntry, table_in, or_else, last_said, records_on, records_ahead, source_of, entries_on, entries}
use Rattle.plans.specs.Entries.{OpenTask, Fits, FitBehind, Fitting}
use Rattle.plans.specs.Statements.{Word, ToldTable, timed, filed, Said, cores, order, task, node, arc}

or_else_none : {A : Type 0} (o : Option A) → or_else o None ≡ o
or_else_none (Some a) = refl
or_else_none None = refl

or_else_assoc : {A : Type 0} (a b c : Option A) → or_else (or_else a b) c ≡ or_else a (or_else b c)
or_else_assoc (Some x) b c = refl
or_else_assoc None b c = refl

-- what is said last, with one statement more
pub last_said_more : {A : Type 0} (says : Said → Option A) (ps : List Placed) (p : Placed)
    → last_said says (ps ++ p ∷ []) ≡ or_else (says p.said) (last_said says ps)
unfolding last_said
last_said_more says [] p = sym (or_else_none (says p.said))
last_said_more {A} says (q ∷ ps) p =
    ap (λ (o : Option A). or_else o (says q.said)) (last_said_more says ps p)
    ∙ or_else_assoc (says p.said) (last_said says ps) (says q.said)

-- a statement that is no record adds none to the tasks before it
same_records : (ps : List Placed) (p : Placed) → records_on p.said [] ≡ [] → records_ahead (ps ++ p ∷ []) ≡ records_ahead ps
unfolding records_ahead
same_records [] p e = e
same_records (q ∷ ps) p e = ap (records_on q.said) (same_records ps p e)

entries_on_more : (line : ℕ) (s : Said) (rs : List Record) (es fs : List ToldEntry) → entries_on line s rs (es ++ fs) ≡ entries_on line s rs es ++ fs
entries_on_more line (cores n) rs es fs = refl
entries_on_more line (order o) rs es fs = refl
entries_on_more line (task name slot t) rs es fs = refl
entries_on_more line (node n) rs es fs = refl
entries_on_more line (arc a) rs es fs = refl

pub entries_more : (ps : List Placed) (p : Placed) → records_on p.said [] ≡ []
    → entries (ps ++ p ∷ []) ≡ entries ps ++ entries_on p.line p.said [] []
unfolding entries records_ahead
entries_more [] p e = refl
entries_more (q ∷ ps) p e =
    ap (λ (rs : List Record). entries_on q.line q.said rs (entries (ps ++ p ∷ []))) (same_records ps p e)
    ∙ ap (entries_on q.line q.said (records_ahead ps)) (entries_more ps p e)
    ∙ entries_on_more q.line q.said (records_ahead ps) (entries ps) (entries_on p.line p.said [] [])

-- bytes behind those of the last entry
extended_source : List ℕ → ToldSource → ToldSource
extended_source more (written bytes) = written (bytes ++ more)
extended_source more (file name) = file name

extended : List ℕ → ToldEntry → ToldEntry
extended more e = record { name = e.name; slot = e.slot; line = e.line; source = extended_source more e.source }

extend_last : List ℕ → List ToldEntry → List ToldEntry
extend_last more [] = []
extend_last more (e ∷ []) = extended more e ∷ []
extend_last more (e ∷ f ∷ es) = e ∷ extend_last more (f ∷ es)

extend_at : (more : List ℕ) (es : List ToldEntry) (e : ToldEntry) → extend_last more (es ++ e ∷ []) ≡ es ++ extended more e ∷ []
unfolding extend_last
extend_at more [] e = refl
extend_at more (a ∷ []) e = refl
extend_at more (a ∷ b ∷ es) e = ap (λ (l : List ToldEntry). a ∷ l) (extend_at more (b ∷ es) e)

-- the records of the tasks before a later one stay
records_shut : (ps : List Placed) (p : Placed) (t : ToldTable) → last_said table_in ps ≡ Some t → records_ahead (ps ++ p ∷ []) ≡ records_ahead ps
unfolding last_said records_ahead
records_shut [] p t e = let z : ◌≡◌ {A = ℕ} 0 1 = cc in absurd (omega arith)
records_shut (q ∷ ps) p t e = go (records_shut ps p t) q.said e
  where
    go : (last_said table_in ps ≡ Some t → records_ahead (ps ++ p ∷ []) ≡ records_ahead ps) → (s : Said) → or_else (last_said table_in ps) (table_in s) ≡ Some t → records_on s (records_ahead (ps ++ p ∷ [])) ≡ records_on s (records_ahead ps)
    go ih (cores n) f = ih (sym (or_else_none (last_said table_in ps)) ∙ f)
    go ih (order o) f = ih (sym (or_else_none (last_said table_in ps)) ∙ f)
    go ih (task name slot u) f = refl
    go ih (node n) f = ap (records_on (node n)) (ih (sym (or_else_none (last_said table_in ps)) ∙ f))
    go ih (arc a) f = ap (records_on (arc a)) (ih (sym (or_else_none (last_said table_in ps)) ∙ f))

-- there is an entry where there is a task
some_entry : (ps : List Placed) (t : ToldTable) → last_said table_in ps ≡ Some t → (e : ToldEntry) × (es : List ToldEntry) × (entries ps ≡ e ∷ es)
unfolding last_said entries
some_entry [] t e = let z : ◌≡◌ {A = ℕ} 0 1 = cc in absurd (omega arith)
some_entry (q ∷ ps) t e = go (some_entry ps t) q.said e
  where
    go : (last_said table_in ps ≡ Some t → (e : ToldEntry) × (es : List ToldEntry) × (entries ps ≡ e ∷ es)) → (s : Said) → or_else (last_said table_in ps) (table_in s) ≡ Some t
        → (e : ToldEntry) × (es : List ToldEntry) × (entries_on q.line s (records_ahead ps) (entries ps) ≡ e ∷ es)
    go ih (cores n) f = ih (sym (or_else_none (last_said table_in ps)) ∙ f)
    go ih (order o) f = ih (sym (or_else_none (last_said table_in ps)) ∙ f)
    go ih (task name slot u) f = (record { name = name; slot = slot; line = q.line; source = source_of u (records_ahead ps) }, entries ps, refl)
    go ih (node n) f = ih (sym (or_else_none (last_said table_in ps)) ∙ f)
    go ih (arc a) f = ih (sym (or_else_none (last_said table_in ps)) ∙ f)

never_none : {A : Type 0} (o : Option A) (a : A) → or_else o (Some a) ≡ None → ⊥
never_none (Some b) a e = let z : ◌≡◌ {A = ℕ} 0 1 = cc in omega arith
never_none None a e = let z : ◌≡◌ {A = ℕ} 0 1 = cc in omega arith

or_else_some : {A : Type 0} (a b : A) (o : Option A) → or_else (Some a) o ≡ Some b → Some a ≡ Some b
or_else_some a b o e = e

-- p is a statement of the record r
pub record Records (p : Placed) (r : Record) : Type 0 where
  pub ahead : (behind : List Record) → records_on p.said behind ≡ r ∷ behind
  pub no_entry : (rs : List Record) (es : List ToldEntry) → entries_on p.line p.said rs es ≡ es

module _ (p : Placed) (r : Record) (h : Records p r) where
  -- without a task before it a record makes no entry
  no_task_entries : (ps : List Placed) → last_said table_in ps ≡ None → (entries ps ≡ []) × (entries (ps ++ p ∷ []) ≡ [])
  unfolding last_said entries records_ahead
  no_task_entries [] e = (refl, h.no_entry [] [])
  no_task_entries (q ∷ ps) e = go (no_task_entries ps) q.said e
    where
      go : (last_said table_in ps ≡ None → (entries ps ≡ []) × (entries (ps ++ p ∷ []) ≡ [])) → (s : Said) → or_else (last_said table_in ps) (table_in s) ≡ None
          → (entries_on q.line s (records_ahead ps) (entries ps) ≡ []) × (entries_on q.line s (records_ahead (ps ++ p ∷ [])) (entries (ps ++ p ∷ [])) ≡ [])
      go ih (cores n) f = ih (sym (or_else_none (last_said table_in ps)) ∙ f)
      go ih (order o) f = ih (sym (or_else_none (last_said table_in ps)) ∙ f)
      go ih (task name slot u) f = absurd (never_none (last_said table_in ps) u f)
      go ih (node n) f = ih (sym (or_else_none (last_said table_in ps)) ∙ f)
      go ih (arc a) f = ih (sym (or_else_none (last_said table_in ps)) ∙ f)

  no_task_records : (ps : List Placed) → last_said table_in ps ≡ None → records_ahead (ps ++ p ∷ []) ≡ records_ahead ps ++ r ∷ []
  unfolding last_said records_ahead
  no_task_records [] e = h.ahead []
  no_task_records (q ∷ ps) e = go (no_task_records ps) q.said e
    where
      go : (last_said table_in ps ≡ None → records_ahead (ps ++ p ∷ []) ≡ records_ahead ps ++ r ∷ []) → (s : Said) → or_else (last_said table_in ps) (table_in s) ≡ None → records_on s (records_ahead (ps ++ p ∷ [])) ≡ records_on s (records_ahead ps) ++ r ∷ []
      go ih (cores n) f = ih (sym (or_else_none (last_said table_in ps)) ∙ f)
      go ih (order o) f = ih (sym (or_else_none (last_said table_in ps)) ∙ f)
      go ih (task name slot u) f = absurd (never_none (last_said table_in ps) u f)
      go ih (node n) f = ap (records_on (node n)) (ih (sym (or_else_none (last_said table_in ps)) ∙ f))
      go ih (arc a) f = ap (records_on (arc a)) (ih (sym (or_else_none (last_said table_in ps)) ∙ f))

  -- it goes to the entry of the latest task
  recorded : (ps : List Placed) (t : Timing) → last_said table_in ps ≡ Some (timed t) → entries (ps ++ p ∷ []) ≡ extend_last (encode r) (entries ps)
  unfolding last_said entries extend_last extended extended_source
  recorded [] t e = let z : ◌≡◌ {A = ℕ} 0 1 = cc in absurd (omega arith)
  recorded (q ∷ ps) t e = go (recorded ps t) (last_said table_in ps) refl
    where
      -- a later task takes it
      later : (last_said table_in ps ≡ Some (timed t) → entries (ps ++ p ∷ []) ≡ extend_last (encode r) (entries ps)) → (u : ToldTable) → last_said table_in ps ≡ Some u → last_said table_in ps ≡ Some (timed t)
          → (s : Said) → entries_on q.line s (records_ahead (ps ++ p ∷ [])) (entries (ps ++ p ∷ []))
          ≡ extend_last (encode r) (entries_on q.line s (records_ahead ps) (entries ps))
      later ih u f g (cores n) = ih g
      later ih u f g (order o) = ih g
      later ih u f g (task name slot v) =
          let some = some_entry ps u f in
          let here : ToldEntry = record { name = name; slot = slot; line = q.line; source = source_of v (records_ahead ps) } in
          ap (λ (rs : List Record). record { name = name; slot = slot; line = q.line; source = source_of v rs } ∷ entries (ps ++ p ∷ [])) (records_shut ps p u f)
          ∙ ap (λ (es : List ToldEntry). here ∷ es) (ih g)
          ∙ ap (λ (es : List ToldEntry). here ∷ extend_last (encode r) es) some.2
          ∙ ap (λ (es : List ToldEntry). extend_last (encode r) (here ∷ es)) (sym some.2)
      later ih u f g (node n) = ih g
      later ih u f g (arc a) = ih g

      -- it is the first record behind the task q, or a later one
      mine : last_said table_in ps ≡ None → (s : Said) → or_else None (table_in s) ≡ Some (timed t)
          → entries_on q.line s (records_ahead (ps ++ p ∷ [])) (entries (ps ++ p ∷ []))
          ≡ extend_last (encode r) (entries_on q.line s (records_ahead ps) (entries ps))
      mine f (cores n) g = let z : ◌≡◌ {A = ℕ} 0 1 = cc in absurd (omega arith)
      mine f (order o) g = let z : ◌≡◌ {A = ℕ} 0 1 = cc in absurd (omega arith)
      mine f (task name slot (filed w)) g = let z : ◌≡◌ {A = ℕ} 0 1 = cc in absurd (omega arith)
      mine f (task name slot (timed v)) g =
          let es = no_task_entries ps f in
          let made : List ℕ → List ToldEntry → List ToldEntry = λ bytes others. record { name = name; slot = slot; line = q.line; source = written bytes } ∷ others in
          ap (λ (rs : List Record). made (encode (task_record v) ++ flat_map encode rs) (entries (ps ++ p ∷ []))) (no_task_records ps f)
          ∙ ap (made (encode (task_record v) ++ flat_map encode (records_ahead ps ++ r ∷ []))) es.1
          ∙ ap (λ (bytes : List ℕ). made bytes []) (sym (flat_map_more encode (encode (task_record v)) (records_ahead ps) r))
          ∙ ap (λ (others : List ToldEntry). extend_last (encode r) (made (encode (task_record v) ++ flat_map encode (records_ahead ps)) others)) (sym es.0)
      mine f (node n) g = let z : ◌≡◌ {A = ℕ} 0 1 = cc in absurd (omega arith)
      mine f (arc a) g = let z : ◌≡◌ {A = ℕ} 0 1 = cc in absurd (omega arith)

      go : (last_said table_in ps ≡ Some (timed t) → entries (ps ++ p ∷ []) ≡ extend_last (encode r) (entries ps)) → (o : Option ToldTable) → last_said table_in ps ≡ o → entries ((q ∷ ps) ++ p ∷ []) ≡ extend_last (encode r) (entries (q ∷ ps))
      go ih (Some u) f = later ih u f (f ∙ or_else_some u (timed t) (table_in q.said) (sym (ap (λ (o : Option ToldTable). or_else o (table_in q.said)) f) ∙ e)) q.said
      go ih None f = mine f q.said (sym (ap (λ (o : Option ToldTable). or_else o (table_in q.said)) f) ∙ e)

  pub record_more : (ps : List Placed) (t : Timing) (es : List ToldEntry) (name : Word) (slot line : ℕ) (bytes : List ℕ)
      → last_said table_in ps ≡ Some (timed t) → entries ps ≡ es ++ record { name = name; slot = slot; line = line; source = written bytes } ∷ []
      → entries (ps ++ p ∷ []) ≡ es ++ record { name = name; slot = slot; line = line; source = written (bytes ++ encode r) } ∷ []
  unfolding extended extended_source
  record_more ps t es name slot line bytes e f =
      recorded ps t e ∙ ap (extend_last (encode r)) f ∙ extend_at (encode r) es (record { name = name; slot = slot; line = line; source = written bytes })

-- each statement fits behind those before it, with one more
fit_more : (before ps : List Placed) (p : Placed) → FitBehind before ps → Fits (before ++ ps) p.said → FitBehind before (ps ++ p ∷ [])
fit_more before [] p f g = (subst (λ (l : List Placed). Fits l p.said) (append-nil before) g, tt)
fit_more before (q ∷ ps) p f g =
    (f.0, fit_more (before ++ q ∷ []) ps p f.1 (subst (λ (l : List Placed). Fits l p.said) (sym (append_assoc before (q ∷ []) ps)) g))

pub fitting_more : (ps : List Placed) (p : Placed) → Fitting ps → Fits ps p.said → Fitting (ps ++ p ∷ [])
fitting_more ps p f g = fit_more [] ps p f g

-- the latest entry, and what is said of its table

-- the source is of the kind that is said
abbrev pub OfKind : ToldTable → ToldSource → Type 0
OfKind (timed t) (written bytes) = Unit {0}
OfKind (timed t) (file name) = ⊥
OfKind (filed f) (written bytes) = ⊥
OfKind (filed f) (file name) = Unit {0}

abbrev pub Latest : Option ToldTable → List ToldEntry → Type 0
Latest None es = es ≡ []
Latest (Some t) es = (before : List ToldEntry) × (e : ToldEntry) × (es ≡ before ++ e ∷ []) × OfKind t e.source

source_kind : (t : ToldTable) (rs : List Record) → OfKind t (source_of t rs)
source_kind (timed t) rs = tt
source_kind (filed f) rs = tt

latest_on : (line : ℕ) (s : Said) (rs : List Record) (o : Option ToldTable) (es : List ToldEntry) → Latest o es
    → Latest (or_else o (table_in s)) (entries_on line s rs es)
latest_on line (cores n) rs o es l = subst (λ (x : Option ToldTable). Latest x es) (sym (or_else_none o)) l
latest_on line (order x) rs o es l = subst (λ (x : Option ToldTable). Latest x es) (sym (or_else_none o)) l
latest_on line (task name slot t) rs None es l =
    let e : ToldEntry = record { name = name; slot = slot; line = line; source = source_of t rs } in
    ([], e, ap (λ (fs : List ToldEntry). e ∷ fs) l, source_kind t rs)
latest_on line (task name slot t) rs (Some u) es l =
    let e : ToldEntry = record { name = name; slot = slot; line = line; source = source_of t rs } in
    (e ∷ l.0, l.1, ap (λ (fs : List ToldEntry). e ∷ fs) l.2, l.3)
latest_on line (node n) rs o es l = subst (λ (x : Option ToldTable). Latest x es) (sym (or_else_none o)) l
latest_on line (arc a) rs o es l = subst (λ (x : Option ToldTable). Latest x es) (sym (or_else_none o)) l

latest : (ps : List Placed) → Latest (last_said table_in ps) (entries ps)
unfolding last_said entries
latest [] = refl
latest (q ∷ ps) = latest_on q.line q.said (records_ahead ps) (last_said table_in ps) (entries ps) (latest ps)

same_last : (es fs : List ToldEntry) (e f : ToldEntry) → es ++ e ∷ [] ≡ fs ++ f ∷ [] → e.source ≡ f.source
same_last es fs e f h = ap (λ (x : ToldEntry). x.source) (same_from_push es fs e f h).1

none_last : (es : List ToldEntry) (e : ToldEntry) → es ++ e ∷ [] ≡ [] → ⊥
none_last es e h = omega (arith, ap length h, length-append es (e ∷ []))

-- where there is no entry, no task is open
pub shut_without : (ps : List Placed) → entries ps ≡ [] → OpenTask ps → ⊥
shut_without ps none o =
    let l = subst (λ (x : Option ToldTable). Latest x (entries ps)) o.1 (latest ps) in
    none_last l.0 l.1 (sym l.2 ∙ none)

-- nor where the last one is in a file
pub shut_by_file : (ps : List Placed) (before : List ToldEntry) (e : ToldEntry) (name : Word) → entries ps ≡ before ++ e ∷ [] → e.source ≡ file name → OpenTask ps → ⊥
shut_by_file ps before e name is from o =
    let l = subst (λ (x : Option ToldTable). Latest x (entries ps)) o.1 (latest ps) in
    subst (OfKind (timed o.0)) (same_last l.0 before l.1 e (sym l.2 ∙ is) ∙ from) l.3

-- a task is open where the last one is written out
pub open_written : (ps : List Placed) (before : List ToldEntry) (e : ToldEntry) (bytes : List ℕ) → entries ps ≡ before ++ e ∷ [] → e.source ≡ written bytes → OpenTask ps
open_written ps before e bytes is from = go (last_said table_in ps) refl (latest ps)
  where
    go : (o : Option ToldTable) → last_said table_in ps ≡ o → Latest o (entries ps) → OpenTask ps
    go None said l = absurd (none_last before e (sym is ∙ l))
    go (Some (timed t)) said l = (t, said)
    go (Some (filed f)) said l = absurd (subst (OfKind (filed f)) (same_last l.0 before l.1 e (sym l.2 ∙ is) ∙ from) l.3)
