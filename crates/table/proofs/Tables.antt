-- Lawful tables and sound runs that begin with a task are the same.
use Rattle.std.proofs.Common.{◌≡◌, ℕ, suc, ◌+◌, ◌<◌, ◌≤◌, ◌⊎◌, List, [], ◌∷◌, ◌++◌, length, get_or, sym, refl, ap, ◌∙◌, subst, inl, inr, arith, length-append}
use Rattle.std.specs.List.{flat_map}
use Rattle.std.proofs.lemmas.Bool.{cases_lt}
use Rattle.std.proofs.lemmas.List.{append-nil, append_assoc, length_push, get_or_push, get_or_append_left, get_or_at, flat_map_more}
use Rattle.table.specs.declared.records.Timing.{Timing}
use Rattle.table.specs.declared.records.Node.{Node}
use Rattle.table.specs.declared.records.Arc.{Arc}
use Rattle.table.specs.declared.reader.Seen.{Seen}
use Rattle.table.specs.Format.{task, node, arc, encode}
use Rattle.table.specs.Range.{TaskInRange, NodeInRange, ArcInRange}
use Rattle.table.specs.declared.records.Kind.TheVariants.{OfNode, OfArc}
use Rattle.table.specs.Run.{Run, begin, ◌then◌, encoding, counted, seen, Sound}
use Rattle.table.specs.Whole.{Lawful, table_bytes, held, no_node, no_arc}
use Rattle.table.proofs.Runs.{timing, nodes, arcs, records}

-- few enough, and in range; there need be no node yet
pub record Ranged (t : Timing) (ns : List Node) (ars : List Arc) : Type 0 where
  pub few_nodes : length ns ≤ 64
  pub few_arcs : length ars ≤ 256
  pub task_in_range : TaskInRange t
  pub nodes_in_range : (v : ℕ) → v < length ns → NodeInRange v (get_or ns v no_node)
  pub arcs_in_range : (k : ℕ) → k < length ars → ArcInRange (length ns) (get_or ars k no_arc)

-- the run is this task, these nodes and these arcs
pub record Whole (t : Timing) (ns : List Node) (ars : List Arc) (run : Run) : Type 0 where
  pub seen_is : seen run ≡ record { tasks = 1; nodes = length ns; arcs = length ars }
  pub bytes_are : encoding run ≡ table_bytes t ns ars
  pub timing_is : timing run ≡ t
  pub nodes_are : nodes run ≡ ns
  pub arcs_are : arcs run ≡ ars
  pub ranged : Ranged t ns ars

one_more_in : {A : Type 0} (P : ℕ → A → Type 0) (d x : A) (xs : List A) → ((v : ℕ) → v < length xs → P v (get_or xs v d)) → P (length xs) x
    → (v : ℕ) → v < length (xs ++ (x ∷ [])) → P v (get_or (xs ++ (x ∷ [])) v d)
one_more_in {A} P d x xs all here v lt = go (cases_lt v (length xs))
  where
    go : (v < length xs) ⊎ (length xs ≤ v) → P v (get_or (xs ++ (x ∷ [])) v d)
    go (inl h) = subst (λ (y : A). P v y) (sym (get_or_append_left xs (x ∷ []) d v h)) (all v h)
    go (inr h) =
        let e : v ≡ length xs = omega (arith, lt, length_push xs x) in
        subst (λ (y : A). P v y) (sym (get_or_push xs x d v (sym e))) (subst (λ (w : ℕ). P w x) (sym e) here)

none_in : {A : Type 0} (P : ℕ → A → Type 0) (d : A) → (v : ℕ) → v < length {A = A} [] → P v (get_or [] v d)
none_in P d v lt = absurd (omega arith)

whole_task : (t : Timing) → TaskInRange t → Whole t [] [] (begin then task t)
whole_task t h = record {
  seen_is = refl;
  bytes_are = sym (append-nil (encode (task t)));
  timing_is = refl;
  nodes_are = refl;
  arcs_are = refl;
  ranged = record {
    few_nodes = omega arith;
    few_arcs = omega arith;
    task_in_range = h;
    nodes_in_range = none_in NodeInRange no_node;
    arcs_in_range = none_in (λ k a. ArcInRange 0 a) no_arc;
  };
}

abbrev seen_nodes : ℕ → ℕ → Seen
seen_nodes k j = record { tasks = 1; nodes = j; arcs = k }

abbrev seen_arcs : ℕ → ℕ → Seen
seen_arcs j k = record { tasks = 1; nodes = j; arcs = k }

same_held : (t q : Timing) (ns ms : List Node) (ars bs : List Arc) → t ≡ q → ns ≡ ms → ars ≡ bs → held t ns ars ≡ held q ms bs
same_held t q ns ms ars bs e f g = cc

pub lawful_whole : (t : Timing) (ns : List Node) (ars : List Arc) (run : Run) → Whole t ns ars run → 1 ≤ length ns → Lawful t ns ars
lawful_whole t ns ars run w some = record {
  some_node = some;
  few_nodes = w.ranged.few_nodes;
  few_arcs = w.ranged.few_arcs;
  task_in_range = w.ranged.task_in_range;
  nodes_in_range = w.ranged.nodes_in_range;
  arcs_in_range = w.ranged.arcs_in_range;
}

pub whole_records : (t : Timing) (ns : List Node) (ars : List Arc) (run : Run) → Whole t ns ars run → records run ≡ held t ns ars
whole_records t ns ars run w = same_held (timing run) t (nodes run) ns (arcs run) ars w.timing_is w.nodes_are w.arcs_are

abbrev N : List Node → List ℕ
N ns = flat_map (λ (n : Node). encode (node n)) ns

abbrev A : List Arc → List ℕ
A ars = flat_map (λ (a : Arc). encode (arc a)) ars

whole_node : (t : Timing) (ns : List Node) (run : Run) (n : Node) → Whole t ns [] run → length ns < 64 → NodeInRange (length ns) n
    → Whole t (ns ++ (n ∷ [])) [] (run then node n)
whole_node t ns run n w few h = record {
  seen_is =
      ap (λ (s : Seen). counted s OfNode) w.seen_is
      ∙ ap (seen_nodes 0) (sym (length_push ns n));
  bytes_are =
      ap (λ (l : List ℕ). l ++ encode (node n)) (w.bytes_are ∙ ap (λ (l : List ℕ). encode (task t) ++ l) (append-nil (N ns)))
      ∙ flat_map_more (λ (m : Node). encode (node m)) (encode (task t)) ns n
      ∙ ap (λ (l : List ℕ). encode (task t) ++ l) (sym (append-nil (N (ns ++ (n ∷ [])))));
  timing_is = w.timing_is;
  nodes_are = ap (λ (l : List Node). l ++ (n ∷ [])) w.nodes_are;
  arcs_are = append-nil (arcs run) ∙ w.arcs_are;
  ranged = record {
    few_nodes = omega (arith, length_push ns n);
    few_arcs = omega arith;
    task_in_range = w.ranged.task_in_range;
    nodes_in_range = one_more_in NodeInRange no_node n ns w.ranged.nodes_in_range h;
    arcs_in_range = none_in (λ k a. ArcInRange (length (ns ++ (n ∷ []))) a) no_arc;
  };
}

whole_arc : (t : Timing) (ns : List Node) (ars : List Arc) (run : Run) (a : Arc) → Whole t ns ars run → length ars < 256 → ArcInRange (length ns) a
    → Whole t ns (ars ++ (a ∷ [])) (run then arc a)
whole_arc t ns ars run a w few h = record {
  seen_is =
      ap (λ (s : Seen). counted s OfArc) w.seen_is
      ∙ ap (seen_arcs (length ns)) (sym (length_push ars a));
  bytes_are =
      ap (λ (l : List ℕ). l ++ encode (arc a)) (w.bytes_are ∙ sym (append_assoc (encode (task t)) (N ns) (A ars)))
      ∙ flat_map_more (λ (b : Arc). encode (arc b)) (encode (task t) ++ N ns) ars a
      ∙ append_assoc (encode (task t)) (N ns) (A (ars ++ (a ∷ [])));
  timing_is = w.timing_is;
  nodes_are = append-nil (nodes run) ∙ w.nodes_are;
  arcs_are = ap (λ (l : List Arc). l ++ (a ∷ [])) w.arcs_are;
  ranged = record {
    few_nodes = w.ranged.few_nodes;
    few_arcs = omega (arith, length_push ars a);
    task_in_range = w.ranged.task_in_range;
    nodes_in_range = w.ranged.nodes_in_range;
    arcs_in_range = one_more_in (λ k b. ArcInRange (length ns) b) no_arc a ars w.ranged.arcs_in_range h;
  };
}

pub tasks_are : (t : Timing) (ns : List Node) (ars : List Arc) (run : Run) → Whole t ns ars run → (seen run).tasks ≡ 1
tasks_are t ns ars run w = ap (λ (s : Seen). s.tasks) w.seen_is

pub nodes_count : (t : Timing) (ns : List Node) (ars : List Arc) (run : Run) → Whole t ns ars run → (seen run).nodes ≡ length ns
nodes_count t ns ars run w = ap (λ (s : Seen). s.nodes) w.seen_is

arcs_count : (t : Timing) (ns : List Node) (ars : List Arc) (run : Run) → Whole t ns ars run → (seen run).arcs ≡ length ars
arcs_count t ns ars run w = ap (λ (s : Seen). s.arcs) w.seen_is

no_arcs : (ars : List Arc) → length ars ≡ 0 → ars ≡ []
no_arcs [] h = refl
no_arcs (a ∷ ars) h = absurd (omega arith)

-- a sound run is empty or a task, nodes and arcs, all lawful
pub whole_run : (run : Run) → Sound run → (run ≡ begin) ⊎ Whole (timing run) (nodes run) (arcs run) run
whole_run begin s = inl refl
whole_run (run then task t) s = inr (go (whole_run run s.0))
  where
    go : (run ≡ begin) ⊎ Whole (timing run) (nodes run) (arcs run) run → Whole t (nodes run ++ []) (arcs run ++ []) (run then task t)
    go (inl e) = subst (λ (r : Run). Whole t (nodes r ++ []) (arcs r ++ []) (r then task t)) (sym e) (whole_task t s.1.in_range)
    go (inr w) = absurd (omega (arith, s.1.in_turn, tasks_are (timing run) (nodes run) (arcs run) run w))
whole_run (run then node n) s = inr (go (whole_run run s.0))
  where
    go : (run ≡ begin) ⊎ Whole (timing run) (nodes run) (arcs run) run → Whole (timing run) (nodes run ++ (n ∷ [])) (arcs run ++ []) (run then node n)
    go (inl e) = absurd (omega (arith, s.1.in_turn.0, ap (λ (r : Run). (seen r).tasks) e))
    go (inr w) =
        let count = nodes_count (timing run) (nodes run) (arcs run) run w in
        let empty : arcs run ≡ [] = no_arcs (arcs run) (omega (arith, s.1.in_turn.1, arcs_count (timing run) (nodes run) (arcs run) run w)) in
        subst (λ (ars : List Arc). Whole (timing run) (nodes run ++ (n ∷ [])) ars (run then node n)) (sym (append-nil (arcs run) ∙ empty))
        (whole_node (timing run) (nodes run) run n (subst (λ (ars : List Arc). Whole (timing run) (nodes run) ars run) empty w)
        (omega (arith, count, s.1.room)) (subst (λ (j : ℕ). NodeInRange j n) count s.1.in_range))
whole_run (run then arc a) s = inr (go (whole_run run s.0))
  where
    go : (run ≡ begin) ⊎ Whole (timing run) (nodes run) (arcs run) run → Whole (timing run) (nodes run ++ []) (arcs run ++ (a ∷ [])) (run then arc a)
    go (inl e) = absurd (omega (arith, s.1.in_turn, ap (λ (r : Run). (seen r).nodes) e))
    go (inr w) =
        let count = nodes_count (timing run) (nodes run) (arcs run) run w in
        subst (λ (ns : List Node). Whole (timing run) ns (arcs run ++ (a ∷ [])) (run then arc a)) (sym (append-nil (nodes run)))
        (whole_arc (timing run) (nodes run) (arcs run) run a w
        (omega (arith, arcs_count (timing run) (nodes run) (arcs run) run w, s.1.room)) (subst (λ (j : ℕ). ArcInRange j a) count s.1.in_range))

-- and the other way: a lawful table is a sound run
pub record Made (t : Timing) (ns : List Node) (ars : List Arc) : Type 0 where
  pub run : Run
  pub sound : Sound run
  pub whole : Whole t ns ars run

make_nodes : (t : Timing) (ns : List Node) → length ns ≤ 64 → ((v : ℕ) → v < length ns → NodeInRange v (get_or ns v no_node))
    → (rest done : List Node) → done ++ rest ≡ ns → Made t done [] → Made t ns []
make_nodes t ns few in_range [] done e m = subst (λ (l : List Node). Made t l []) (sym (append-nil done) ∙ e) m
make_nodes t ns few in_range (n ∷ rest) done e m =
    let long : length done + suc (length rest) ≡ length ns = sym (length-append done (n ∷ rest)) ∙ ap length e in
    let here : get_or ns (length done) no_node ≡ n =
    ap (λ (l : List Node). get_or l (length done) no_node) (sym e) ∙ get_or_at done n rest no_node (length done) refl in
    let ranged : NodeInRange (length done) n = subst (λ (x : Node). NodeInRange (length done) x) here (in_range (length done) (omega (arith, long))) in
    let w = m.whole in
    let count = nodes_count t done [] m.run w in
    make_nodes t ns few in_range rest (done ++ (n ∷ [])) (append_assoc done (n ∷ []) rest ∙ e)
    (record {
      run = m.run then node n;
      sound = (
        m.sound,
        record {
          in_turn = (tasks_are t done [] m.run w, arcs_count t done [] m.run w);
          room = omega (arith, long, count);
          in_range = subst (λ (j : ℕ). NodeInRange j n) (sym count) ranged;
        },
      );
      whole = whole_node t done m.run n w (omega (arith, long)) ranged;
    })

make_arcs : (t : Timing) (ns : List Node) (ars : List Arc) → 1 ≤ length ns → length ars ≤ 256
    → ((k : ℕ) → k < length ars → ArcInRange (length ns) (get_or ars k no_arc))
    → (rest done : List Arc) → done ++ rest ≡ ars → Made t ns done → Made t ns ars
make_arcs t ns ars some few in_range [] done e m = subst (λ (l : List Arc). Made t ns l) (sym (append-nil done) ∙ e) m
make_arcs t ns ars some few in_range (a ∷ rest) done e m =
    let long : length done + suc (length rest) ≡ length ars = sym (length-append done (a ∷ rest)) ∙ ap length e in
    let here : get_or ars (length done) no_arc ≡ a =
    ap (λ (l : List Arc). get_or l (length done) no_arc) (sym e) ∙ get_or_at done a rest no_arc (length done) refl in
    let ranged : ArcInRange (length ns) a = subst (λ (x : Arc). ArcInRange (length ns) x) here (in_range (length done) (omega (arith, long))) in
    let w = m.whole in
    let count = nodes_count t ns done m.run w in
    make_arcs t ns ars some few in_range rest (done ++ (a ∷ [])) (append_assoc done (a ∷ []) rest ∙ e)
    (record {
      run = m.run then arc a;
      sound = (
        m.sound,
        record {
          in_turn = omega (arith, count);
          room = omega (arith, long, arcs_count t ns done m.run w);
          in_range = subst (λ (j : ℕ). ArcInRange j a) (sym count) ranged;
        },
      );
      whole = whole_arc t ns done m.run a w (omega (arith, long)) ranged;
    })

pub made : (t : Timing) (ns : List Node) (ars : List Arc) → Lawful t ns ars → Made t ns ars
made t ns ars l =
    make_arcs t ns ars l.some_node l.few_arcs l.arcs_in_range ars [] refl
    (make_nodes t ns l.few_nodes l.nodes_in_range ns [] refl
    (record {
      run = begin then task t;
      sound = (tt, record { in_turn = refl; room = tt; in_range = l.task_in_range });
      whole = whole_task t l.task_in_range;
    }))
