-- What a run holds, one record more.
use Rattle.std.proofs.Common.{◌≡◌, ℕ, suc, ◌+◌, ◌-◌, ◌<◌, List, [], ◌∷◌, ◌++◌, length, set, replicate, sym, refl, ap, ◌∙◌, arith}
use Rattle.std.proofs.lemmas.List.{append-nil, append_assoc, set_at, length_push}
use Rattle.table.specs.declared.records.Kind.TheVariants.{OfTask, OfNode, OfArc}
use Rattle.table.specs.declared.records.Kind.{Kind}
use Rattle.table.specs.Format.{Record, task, node, arc, kind}
use Rattle.table.specs.Run.{Run, begin, ◌then◌, seen, Room}
use Rattle.table.specs.Whole.{padded, no_node, no_arc}
use Rattle.table.proofs.Runs.{nodes, arcs, records}
use Rattle.table.specs.Steps.{added, PlaceFor}

pub counts_nodes : (run : Run) → (seen run).nodes ≡ length (nodes run)
counts_nodes begin = refl
counts_nodes (run then task t) = counts_nodes run ∙ ap length (sym (append-nil (nodes run)))
counts_nodes (run then node n) = omega (arith, counts_nodes run, length_push (nodes run) n)
counts_nodes (run then arc a) = counts_nodes run ∙ ap length (sym (append-nil (nodes run)))

pub counts_arcs : (run : Run) → (seen run).arcs ≡ length (arcs run)
counts_arcs begin = refl
counts_arcs (run then task t) = counts_arcs run ∙ ap length (sym (append-nil (arcs run)))
counts_arcs (run then node n) = counts_arcs run ∙ ap length (sym (append-nil (arcs run)))
counts_arcs (run then arc a) = omega (arith, counts_arcs run, length_push (arcs run) a)

padded_set : {A : Type 0} (places : ℕ) (nothing x : A) (xs : List A) → length xs < places
    → set (padded places nothing xs) (length xs) x ≡ padded places nothing (xs ++ (x ∷ []))
padded_set {A} places nothing x xs few = go (places - length xs - 1) (omega arith)
  where
    go : (m : ℕ) → places ≡ length xs + suc m → set (padded places nothing xs) (length xs) x ≡ padded places nothing (xs ++ (x ∷ []))
    go m e =
        let a : places - length xs ≡ suc m = omega arith in
        let b : places - length (xs ++ (x ∷ [])) ≡ m = omega (arith, length_push xs x) in
        ap (λ (j : ℕ). set (xs ++ replicate j nothing) (length xs) x) a
        ∙ set_at xs nothing (replicate m nothing) x (length xs) refl
        ∙ sym (append_assoc xs (x ∷ []) (replicate m nothing))
        ∙ ap (λ (j : ℕ). (xs ++ (x ∷ [])) ++ replicate j nothing) (sym b)

pub has_place : (run : Run) (k : Kind) → Room (seen run) k → PlaceFor (records run) k
has_place run OfTask room = tt
has_place run OfNode room = omega (arith, counts_nodes run)
has_place run OfArc room = omega (arith, counts_arcs run)

pub added_records : (run : Run) (r : Record) → Room (seen run) (kind r) → added (records run) r ≡ records (run then r)
added_records run (task t) room = simp append-nil
added_records run (node n) room =
    let few : length (nodes run) < 64 = omega (arith, counts_nodes run) in
    simp (append-nil, padded_set 64 no_node n (nodes run) few, length_push)
added_records run (arc a) room =
    let few : length (arcs run) < 256 = omega (arith, counts_arcs run) in
    simp (append-nil, padded_set 256 no_arc a (arcs run) few, length_push)
