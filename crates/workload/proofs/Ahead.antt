-- The nodes from the last to the first, each at its turn.
use Rattle.std.proofs.Common.{◌≡◌, ℕ, suc, ◌+◌, ◌^◌, ◌<◌, List, [], ◌∷◌, ◌++◌, length, get_or, set, replicate, sym, ap, ◌∙◌, subst, append_assoc, append-nil, arith, length-append}
use Rattle.std.specs.List.{push}
use Rattle.std.proofs.lemmas.List.{get_or-append-add}
use Rattle.table.specs.Whole.{no_node}
use Rattle.table.specs.declared.records.Node.{Node}
use Rattle.workload.specs.Nested.{Nested}
use Rattle.workload.specs.Weights.{weighed, Heaviest, Room, Added}
use Rattle.workload.specs.Worst.{WorstPicks}
use Rattle.workload.proofs.Stages.{Stage, Turn, gain_fits, room, stage_start, stage_step, stage_end}

-- the nodes in rest are still to come, numbered from count, and those after them are weighed
pub record Ahead (ns : List Node) (count : ℕ) (rest : List Node) (rows : List (List ℕ)) (picks : List ℕ) : Type 0 where
  pub from_zero : count ≡ 0
  pub later : List Node
  pub split : ns ≡ rest ++ later
  pub stage : Stage ns (length rest) rows picks

pub all_ahead : (ns : List Node) (count : ℕ) (rest : List Node) (rows : List (List ℕ)) → count ≡ 0 → rest ≡ ns → rows ≡ replicate 64 (replicate 8 0) → Ahead ns count rest rows (replicate 64 0)
all_ahead ns count rest rows zero all none =
    record {
      from_zero = zero;
      later = [];
      split = sym all ∙ sym (append-nil rest);
      stage = subst (λ (r : List (List ℕ)). Stage ns (length rest) r (replicate 64 0)) (sym none)
          (subst (λ (n : ℕ). Stage ns n (replicate 64 (replicate 8 0)) (replicate 64 0)) (ap (λ (xs : List Node). length xs) (sym all)) (stage_start ns));
    }

pub none_ahead : (ns : List Node) → Nested ns → (count : ℕ) (rest : List Node) (rows : List (List ℕ)) (picks : List ℕ) → Ahead ns count rest rows picks → length rest ≡ 0 → WorstPicks ns picks
none_ahead ns nested count rest rows picks ahead none = stage_end ns nested rows picks (subst (λ (k : ℕ). Stage ns k rows picks) none ahead.stage)

module _ (ns : List Node) (nested : Nested ns) (count : ℕ) (rest less : List Node) (node : Node) (rows : List (List ℕ)) (picks : List ℕ) (v p : ℕ) (ahead : Ahead ns count rest rows picks) (last : rest ≡ push less node) (numbered : v ≡ count + length less) (heavy : Heaviest (get_or rows v []) p) where
  place : length less + 0 ≡ v
  place = omega (arith, ahead.from_zero)

  split : ns ≡ less ++ (node ∷ ahead.later)
  split = ahead.split ∙ ap (λ (xs : List Node). xs ++ ahead.later) last ∙ append_assoc less (node ∷ []) ahead.later

  here : get_or ns v no_node ≡ node
  here = ap (λ (xs : List Node). get_or xs v no_node) split ∙ subst (λ (i : ℕ). get_or (less ++ (node ∷ ahead.later)) i no_node ≡ node) place (get_or-append-add less (node ∷ ahead.later) 0 no_node)

  turn : Turn ns v rows picks p
  turn =
      let long : length ns ≡ length less + suc (length ahead.later) = ap (λ (xs : List Node). length xs) split ∙ length-append less (node ∷ ahead.later) in
      let next : length rest ≡ suc v = ap (λ (xs : List Node). length xs) last ∙ length-append less (node ∷ []) ∙ omega (arith, place) in
      record {
        nested = nested;
        is_node = omega (arith, place);
        stage = subst (λ (k : ℕ). Stage ns k rows picks) next ahead.stage;
        heavy = heavy;
      }

  pub gain_fits_ahead : node.time + weighed rows v p < 2 ^ 64
  gain_fits_ahead = subst (λ (n : Node). n.time + weighed rows v p < 2 ^ 64) here (gain_fits ns v rows picks p turn)

  pub room_ahead : Room rows node.region (node.time + weighed rows v p)
  room_ahead = subst (λ (n : Node). Room rows n.region (n.time + weighed rows v p)) here (room ns v rows picks p turn)

  pub less_ahead : (next : ℕ) (after : List (List ℕ)) → next ≡ count → Added rows node.region (node.time + weighed rows v p) after → Ahead ns next less after (set picks v p)
  less_ahead next after same added =
      record {
        from_zero = same ∙ ahead.from_zero;
        later = node ∷ ahead.later;
        split = split;
        stage =
            subst (λ (k : ℕ). Stage ns k after (set picks v p)) (sym place ∙ omega arith)
            (stage_step ns v rows picks p turn after (subst (λ (n : Node). Added rows n.region (n.time + weighed rows v p) after) (sym here) added));
      }
