-- A task of one plain node: its greatest length and its greatest total are the node's time.
use Rattle.std.proofs.Common.{◌≡◌, ℕ, zero, suc, ◌+◌, ◌<◌, ◌≤◌, [], sym, refl, ◌∙◌, arith, lit≤}
use Rattle.table.specs.declared.records.Region.TheVariants.{Top}
use Rattle.table.specs.declared.records.Role.TheVariants.{Plain}
use Rattle.table.specs.Cases.{lamp_nodes}
use Rattle.task.specs.Graph.{role, region, time, Joined, Ranged}
use Rattle.task.specs.Shape.{Shaped}
use Rattle.task.proofs.Apart.{top_not_branch, plain_not_opening, plain_not_closing}
use Rattle.task.proofs.Computed.{holds}
use Rattle.task.proofs.Judged.{t_shaped}
use Rattle.paths.specs.Instances.{path_ticks}
use Rattle.paths.specs.Paths.{Path, end, step}
use Rattle.workload.specs.Measures.{total, PathOf, IsLongestPath, IsGreatestLength, IsGreatestTotal}
use Rattle.workload.specs.Settling.{Settling, takes}
use Rattle.workload.proofs.Paths.{longest_path_is_length_lem}

no_arcs : (u v : ℕ) → Joined [] u v → ⊥
no_arcs u v (k, a) = let l : k < 0 = a.is_arc in omega arith

module _ (t : ℕ) where
  pub single_plain : (v : ℕ) → role (lamp_nodes t) v ≡ Plain
  single_plain zero = refl
  single_plain (suc v) = refl

  at_top : (v : ℕ) → region (lamp_nodes t) v ≡ Top
  at_top zero = refl
  at_top (suc v) = refl

  its_time : (v : ℕ) → v < 1 → time (lamp_nodes t) v ≡ t
  its_time zero l = refl
  its_time (suc v) l = absurd (omega arith)

  pub single_ranged : 1 ≤ t → t ≤ 65535 → Ranged (lamp_nodes t) []
  single_ranged some short =
      record {
        some_node = lit≤ tt;
        few_nodes = lit≤ tt;
        few_arcs = lit≤ tt;
        homes_smaller = λ v h n i. absurd (top_not_branch h i.0 (sym (at_top v) ∙ i.1));
        branches_few = λ v h b n e. absurd (top_not_branch h b (sym (at_top v) ∙ e));
        mates_smaller = λ v o n e. absurd (plain_not_closing o (sym (single_plain v) ∙ e));
        times_positive = λ v n. omega (arith, its_time v n);
        times_short = λ v n. omega (arith, its_time v n);
        arcs_forward = λ u v j. absurd (no_arcs u v j);
        arcs_between_nodes = λ u v j. absurd (no_arcs u v j);
      }

  pub single_shaped : Shaped (lamp_nodes t) []
  single_shaped = holds (t_shaped (lamp_nodes t) []) refl

  -- the one path is the node
  one_path : (p : Path) → PathOf (lamp_nodes t) [] p → path_ticks (lamp_nodes t) p ≤ t
  one_path (end v) h = omega (arith, its_time v h.nodes)
  one_path (step v p) h = absurd (no_arcs v _ h.joined.0)

  longest : IsLongestPath (lamp_nodes t) [] t
  longest = record { attained = (end 0, record { nodes = omega arith; joined = tt }, refl); not_exceeded = one_path }

  pub single_length : 1 ≤ t → t ≤ 65535 → IsGreatestLength (lamp_nodes t) [] t
  single_length some short = longest_path_is_length_lem (lamp_nodes t) [] t (single_ranged some short) single_shaped longest

  -- no opening is there to settle
  settles : (pick : ℕ → ℕ) → Settling (lamp_nodes t) pick
  settles pick o op = absurd (plain_not_opening (sym (single_plain o) ∙ op))

  taken_whole : (pick : ℕ → ℕ) → total (lamp_nodes t) pick ≡ 0 + t
  unfolding takes
  taken_whole pick = refl

  pub single_total : IsGreatestTotal (lamp_nodes t) t
  single_total =
      record {
        attained = ((λ o. 0), settles (λ o. 0), omega (arith, taken_whole (λ o. 0)));
        not_exceeded = λ pick s. omega (arith, taken_whole pick);
      }
