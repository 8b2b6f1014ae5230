-- The weights and the picks after the nodes from i on.
use Rattle.std.proofs.Common.{◌≡◌, ℕ, suc, ◌+◌, ◌^◌, ◌<◌, ◌≤◌, ◌≢◌, ◌⊎◌, List, [], length, get_or, set, replicate, sym, refl, ap, ◌∙◌, subst, inl, inr, arith, length-set, get_or-set_other, get_or-set_same}
use lib.ListN.{length-replicate, get_or-replicate}
use Rattle.std.proofs.lemmas.List.{get_or_past}
use Rattle.std.proofs.lemmas.Bool.{cases_eq, cases_lt}
use Rattle.table.specs.declared.records.Node.{Node}
use Rattle.table.specs.declared.records.Region.TheVariants.{Branch}
use Rattle.table.specs.declared.records.Role.TheVariants.{Opening}
use Rattle.task.specs.Graph.{role, region, time, IsNode, HasBranch}
use Rattle.task.proofs.Mated.{opening_is_node}
use Rattle.workload.specs.Nested.{Nested}
use Rattle.workload.specs.Weights.{weighed, EightWide, Heaviest, Room, Added}
use Rattle.workload.specs.Worst.{pick_of, WorstPicks}
use Rattle.workload.proofs.Bound.{gain_small, branch_small}
use Rattle.workload.proofs.Greatest.{Best, total_below, best_total}
use Rattle.workload.proofs.Sums.{best_bounds, best_least}
use Rattle.workload.proofs.Weigh.{region_or_other, branch_weight, gain, weight_own, weight_other, weight_end, weighed_region}

pub record Stage (ns : List Node) (i : ℕ) (rows : List (List ℕ)) (picks : List ℕ) : Type 0 where
  pub long : length picks ≡ 64
  pub wide : EightWide rows
  pub weights : (h b : ℕ) → h < 64 → b < 8 → weighed rows h b ≡ branch_weight ns i h b
  pub best : (o : ℕ) → i ≤ o → o < length ns → Best ns o (pick_of picks o)
  pub has : (o : ℕ) → i ≤ o → role ns o ≡ Opening → HasBranch ns o (pick_of picks o)
  pub none_elsewhere : (o : ℕ) → role ns o ≢ Opening → pick_of picks o ≡ 0

none_picked : (m o : ℕ) → pick_of (replicate m 0) o ≡ 0
none_picked m o = go (cases_lt o m)
  where
    go : (o < m) ⊎ (m ≤ o) → pick_of (replicate m 0) o ≡ 0
    go (inl l) = get_or-replicate m o 0 0 l
    go (inr l) = get_or_past (replicate m 0) o 0 (omega (arith, length-replicate {A = ℕ} m 0))

pub stage_start : (ns : List Node) → Stage ns (length ns) (replicate 64 (replicate 8 0)) (replicate 64 0)
stage_start ns =
    record {
      long = length-replicate {A = ℕ} 64 0;
      wide = λ h l. ap (λ (r : List ℕ). length r) (get_or-replicate 64 h (replicate 8 0) [] l) ∙ length-replicate {A = ℕ} 8 0;
      weights = λ h b l m.
          ap (λ (r : List ℕ). get_or r b 0) (get_or-replicate 64 h (replicate 8 0) [] l) ∙ get_or-replicate 8 b 0 0 m
          ∙ sym (weight_end ns (length ns) (Branch h b) (omega arith));
      best = λ o l k. absurd (omega arith);
      has = λ o l op. absurd (omega (arith, opening_is_node ns o op));
      none_elsewhere = λ o d. none_picked 64 o;
    }

-- the turn of the node i, with p the heaviest of its branches
pub record Turn (ns : List Node) (i : ℕ) (rows : List (List ℕ)) (picks : List ℕ) (p : ℕ) : Type 0 where
  pub nested : Nested ns
  pub is_node : IsNode ns i
  pub stage : Stage ns (suc i) rows picks
  pub heavy : Heaviest (get_or rows i []) p

module _ (ns : List Node) (i : ℕ) (rows : List (List ℕ)) (picks : List ℕ) (p : ℕ) (turn : Turn ns i rows picks p) where
  abbrev nested : Nested ns
  nested = turn.nested

  abbrev n : IsNode ns i
  n = turn.is_node

  abbrev stage : Stage ns (suc i) rows picks
  stage = turn.stage

  abbrev heavy : Heaviest (get_or rows i []) p
  heavy = turn.heavy

  row_weight : (b : ℕ) → b < 8 → weighed rows i b ≡ branch_weight ns (suc i) i b
  row_weight b l = stage.weights i b (omega (arith, nested.few_nodes)) l

  heaviest_is_best : Best ns i p
  heaviest_is_best =
      let f : ℕ → ℕ = branch_weight ns (suc i) i in
      let here = row_weight p heavy.in_row in
      omega (arith, best_bounds f 8 p heavy.in_row, best_least f 8 (f p) (λ k l. omega (arith, heavy.most k l, row_weight k l)))

  gain_is : time ns i + weighed rows i p ≡ gain ns i
  gain_is = omega (arith, row_weight p heavy.in_row, heaviest_is_best)

  -- a branch with a weight has a node, and without one there is no other than 0
  weighed_or_zero : HasBranch ns i p ⊎ (p ≡ 0)
  weighed_or_zero = go (cases_lt 0 (weighed rows i p)) (cases_lt 0 p)
    where
      go : (0 < weighed rows i p) ⊎ (weighed rows i p ≤ 0) → (0 < p) ⊎ (p ≤ 0) → HasBranch ns i p ⊎ (p ≡ 0)
      go (inl w) l = inl (weighed_region ns (suc i) (Branch i p) (omega (arith, row_weight p heavy.in_row)))
      go (inr z) (inl l) = absurd (omega (arith, heavy.first 0 l))
      go (inr z) (inr l) = inr (omega arith)

  pick_has : role ns i ≡ Opening → HasBranch ns i p
  pick_has op = go weighed_or_zero
    where
      go : HasBranch ns i p ⊎ (p ≡ 0) → HasBranch ns i p
      go (inl h) = h
      go (inr z) = subst (HasBranch ns i) (sym z) (nested.branches_count_up i n op).branch_zero

  pick_zero : role ns i ≢ Opening → p ≡ 0
  pick_zero d = go weighed_or_zero
    where
      go : HasBranch ns i p ⊎ (p ≡ 0) → p ≡ 0
      go (inl (v, lies)) = absurd (d (nested.homes_are_openings v lies.is_node i (p, lies.lies)))
      go (inr z) = z

  pub gain_fits : time ns i + weighed rows i p < 2 ^ 64
  gain_fits = omega (arith, gain_is, gain_small ns nested i n)

  pub room : Room rows (region ns i) (time ns i + weighed rows i p)
  room =
      record {
        wide = stage.wide;
        home = λ h b e. home_below h b e;
        branch = λ h b e. nested.branches_few i h b n e;
        sum = λ h b e.
            let less = nested.homes_smaller i h n (b, e) in
            let few = nested.branches_few i h b n e in
            omega (arith, gain_is, stage.weights h b (home_below h b e) few, weight_own ns i (Branch h b) n e, branch_small ns nested i h b (omega arith) less few);
      }
    where
      home_below : (h b : ℕ) → region ns i ≡ Branch h b → h < 64
      home_below h b e = omega (arith, nested.homes_smaller i h n (b, e), nested.few_nodes)

  -- a property of picks, after p is picked at i
  with_pick : (P : ℕ → ℕ → Type 0) → P i p → (o : ℕ) → (o ≢ i → P o (pick_of picks o)) → P o (pick_of (set picks i p) o)
  with_pick P new o old = go (cases_eq o i)
    where
      same : pick_of (set picks i p) i ≡ p
      same = get_or-set_same picks i p 0 (omega (arith, stage.long, nested.few_nodes))

      go : (o ≡ i) ⊎ (o ≡ i → ⊥) → P o (pick_of (set picks i p) o)
      go (inl e) = subst (λ (x : ℕ). P x (pick_of (set picks i p) x)) (sym e) (subst (P i) (sym same) new)
      go (inr d) = subst (P o) (sym (get_or-set_other picks i o p 0 d)) (old d)

  pub stage_step : (after : List (List ℕ)) → Added rows (region ns i) (time ns i + weighed rows i p) after → Stage ns i after (set picks i p)
  stage_step after added =
      record {
        long = length-set picks i p ∙ stage.long;
        wide = added.wide;
        weights = λ h b l m. weigh h b l m (region_or_other (region ns i) (Branch h b));
        best = λ o l k. with_pick (Best ns) heaviest_is_best o (λ d. stage.best o (omega arith) k);
        has = λ o l. with_pick (λ x b. role ns x ≡ Opening → HasBranch ns x b) pick_has o (λ d op. stage.has o (omega arith) op);
        none_elsewhere = λ o. with_pick (λ x b. role ns x ≢ Opening → b ≡ 0) pick_zero o (λ d. stage.none_elsewhere o);
      }
    where
      weigh : (h b : ℕ) → h < 64 → b < 8 → (region ns i ≡ Branch h b) ⊎ (region ns i ≢ Branch h b) → weighed after h b ≡ branch_weight ns i h b
      weigh h b l m (inl e) = omega (arith, added.here h b e, stage.weights h b l m, gain_is, weight_own ns i (Branch h b) n e)
      weigh h b l m (inr d) = added.elsewhere h b d ∙ stage.weights h b l m ∙ sym (weight_other ns i (Branch h b) n d)

pub stage_end : (ns : List Node) → Nested ns → (rows : List (List ℕ)) (picks : List ℕ) → Stage ns 0 rows picks → WorstPicks ns picks
stage_end ns nested rows picks stage =
    let pick = pick_of picks in
    let all-best = best_total ns nested pick (λ o l. stage.best o (omega arith) l) in
    record {
      settling = λ o op. stage.has o (omega arith) op;
      greatest = record {
        attained = (pick, λ o op. stage.has o (omega arith) op, refl);
        not_exceeded = λ other s. omega (arith, total_below ns nested other);
      };
      none_elsewhere = stage.none_elsewhere;
    }
