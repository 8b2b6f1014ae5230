-- A job that has not ended has a ready node: the first that is taken and has not ended.
use Rattle.std.proofs.Common.{◌≡◌, ℕ, zero, suc, ◌<◌, ◌≤◌, ◌⊎◌, List, length, sym, refl, subst, inl, inr, not-suc-le-zero, arith}
use Rattle.std.proofs.lemmas.Bool.{cases_eq}
use Rattle.table.specs.declared.records.Arc.{Arc}
use Rattle.table.specs.declared.records.Node.{Node}
use Rattle.table.specs.declared.records.Region.{Region}
use Rattle.table.specs.declared.records.Region.TheVariants.{Top, Branch}
use Rattle.task.specs.Graph.{region, IsNode, InRegion, Ranged}
use Rattle.task.specs.Shape.{Shaped}
use Rattle.task.proofs.Follows.{closing_beside, one_last}
use Rattle.jobs.specs.declared.node_state.NodeState.{NodeState}
use Rattle.jobs.specs.Job.{state, HasEnded, Taken, Ready}
use Rattle.jobs.specs.Statements.{Progress}
use Rattle.jobs.proofs.Entering.{ended_or_not, taken_or_not, taken_at_top, taken_beside}

-- node 0 has no home, as a home has a smaller number
pub first_node_at_top : (ns : List Node) (arcs : List Arc) → Ranged ns arcs → InRegion ns Top 0
first_node_at_top ns arcs r = go (region ns 0) refl
  where
    go : (q : Region) → region ns 0 ≡ q → InRegion ns Top 0
    go Top e = record { is_node = r.some_node; lies = e }
    go (Branch h b) e = absurd (not-suc-le-zero (r.homes_smaller 0 h r.some_node (b, e)))

-- below n, each node that is taken has ended
abbrev EndedBelow : List Node → List NodeState → ℕ → Type 0
EndedBelow ns job n = (u : ℕ) → u < n → Taken ns job u → HasEnded job u

module _ (ns : List Node) (arcs : List Arc) (job : List NodeState) (r : Ranged ns arcs) (s : Shaped ns arcs) where
  ready_next : (v : ℕ) → IsNode ns v → EndedBelow ns job v → Taken ns job v → (HasEnded job v → ⊥) → Ready ns arcs job v
  ready_next v n below t h =
      record {
        is_node = n;
        taken = t;
        not_ended = h;
        all_before = λ u j. below u (r.arcs_forward u v j);
        opening_ended = λ o c.
            below o (r.mates_smaller v o n c)
            (taken_beside ns job o v (sym (closing_beside ns arcs s o v (record { is_node = n; closes = c }))) t);
      }

  one_more : (v : ℕ) → EndedBelow ns job v → (Taken ns job v → HasEnded job v) → EndedBelow ns job (suc v)
  one_more v below here u l = go (cases_eq u v)
    where
      go : (u ≡ v) ⊎ (u ≡ v → ⊥) → Taken ns job u → HasEnded job u
      go (inl e) = subst (λ (x : ℕ). Taken ns job x → HasEnded job x) (sym e) here
      go (inr d) = below u (omega arith)

  ended_or_ready : (n : ℕ) → n ≤ length ns → EndedBelow ns job n ⊎ ((v : ℕ) × Ready ns arcs job v)
  ended_or_ready zero l = inl (λ u k t. absurd (not-suc-le-zero k))
  ended_or_ready (suc n) l = go (ended_or_ready n (omega arith)) (taken_or_not ns job n) (ended_or_not (state job n))
    where
      go : EndedBelow ns job n ⊎ ((v : ℕ) × Ready ns arcs job v) → Taken ns job n ⊎ (Taken ns job n → ⊥) → HasEnded job n ⊎ (HasEnded job n → ⊥)
          → EndedBelow ns job (suc n) ⊎ ((v : ℕ) × Ready ns arcs job v)
      go (inr ready) t h = inr ready
      go (inl below) (inr out) h = inl (one_more n below (λ t. absurd (out t)))
      go (inl below) (inl t) (inl e) = inl (one_more n below (λ _. e))
      go (inl below) (inl t) (inr h) = inr (n, ready_next n l below t h)

pub progress_holds_lem : Progress
progress_holds_lem ns arcs job r s unended = go (ended_or_ready ns arcs job r s (length ns) (omega arith))
  where
    go : EndedBelow ns job (length ns) ⊎ ((v : ℕ) × Ready ns arcs job v) → (v : ℕ) × Ready ns arcs job v
    go (inr ready) = ready
    go (inl all) =
        let one = one_last ns arcs s Top 0 (first_node_at_top ns arcs r) in
        let v = one.the_one in
        let at = one.has_it.0 in
        absurd (unended (record {
          last_node = v;
          at_top = at;
          is_last = one.has_it.1;
          ended = all v at.is_node (taken_at_top ns job v at.lies);
        }))
