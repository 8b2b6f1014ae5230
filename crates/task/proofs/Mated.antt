-- Openings and their closings.
use Rattle.std.proofs.Common.{◌≡◌, ℕ, ◌<◌, ◌≤◌, ◌⊎◌, List, length, sym, ap, subst, inl, inr, arith}
use Rattle.std.proofs.lemmas.List.{get_or_past}
use Rattle.std.proofs.lemmas.Bool.{cases_lt}
use Rattle.table.specs.declared.records.Node.{Node}
use Rattle.table.specs.declared.records.Role.TheVariants.{Opening}
use Rattle.sets.specs.declared.bit_set.BitSet.{BitSet}
use Rattle.table.specs.Whole.{no_node}
use Rattle.task.specs.Graph.{role, region, IsNode, ClosingOf}
use Rattle.sets.specs.Sets.{Only, Marks}
use Rattle.task.specs.Shape.{ClosedOnce}
use Rattle.sets.proofs.Marked.{just_one}

module _ (ns : List Node) where
  -- a number that no node has is no opening
  pub opening_is_node : (o : ℕ) → role ns o ≡ Opening → IsNode ns o
  opening_is_node o e = go (cases_lt o (length ns))
    where
      go : (o < length ns) ⊎ (length ns ≤ o) → IsNode ns o
      go (inl l) = l
      go (inr l) =
          let past = ap (λ (n : Node). n.role) (get_or_past ns o no_node l) in
          let z : ◌≡◌ {A = ℕ} 0 1 = cc in
          absurd (omega arith)

  -- the one closing c lies beside the opening
  pub closed_by : (o c : ℕ) (s : BitSet) → Marks (ClosingOf ns o) s → Only s c → region ns c ≡ region ns o → ClosedOnce ns o
  closed_by o c s m only e =
      record {
        one_closing = just_one m c only;
        beside = λ d k. subst (λ (x : ℕ). region ns x ≡ region ns o) (sym (only.no_other d (m.every d k))) e;
      }
