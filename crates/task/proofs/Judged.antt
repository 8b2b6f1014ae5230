-- The ranges and the shape of a task as tests that compute.
use Rattle.std.proofs.Common.{◌≡◌, ℕ, suc, pred, ◌<◌, ◌≤◌, true, List, length, refl, subst, subst₂, arith}
use Rattle.table.specs.declared.records.Arc.{Arc}
use Rattle.table.specs.declared.records.Node.{Node}
use Rattle.table.specs.declared.records.Region.{Region}
use Rattle.table.specs.declared.records.Region.TheVariants.{Branch}
use Rattle.table.specs.declared.records.Role.TheVariants.{Opening, Closing}
use Rattle.task.specs.Graph.{role, region, time, from, to, IsNode, HomeOf, InRegion, HasBranch, ClosingOf, Joined, BeginsUnit, EndsUnit, Inner, Entry, Exit, First, Last, Ranged}
use Rattle.task.specs.Shape.{HomeOpens, PairsUp, CountsUp, LawfulArc, HasEnds, Wired, Shaped}
use Rattle.task.proofs.Computed.{Test, t_like, t_and, t_or, t_not, t_implies, t_eq, t_lt, t_le, t_all, t_some, t_just_one, t_region, t_branch, t_home, t_opening, t_closing, t_mate, no_test, holds}

module _ (ns : List Node) where
  abbrev pub t_in_region : (r : Region) (v : ℕ) → Test (InRegion ns r v)
  t_in_region r v =
      t_like (λ p. record { is_node = p.0; lies = p.1 }) (λ i. (i.is_node, i.lies)) (t_and (t_lt v (length ns)) (t_region (region ns v) r))

  abbrev pub t_has_branch : (o b : ℕ) → Test (HasBranch ns o b)
  t_has_branch o b =
      t_like (λ s. (s.0, s.2)) (λ s. (s.0, s.1.is_node, s.1)) (t_some (length ns) (InRegion ns (Branch o b)) (t_in_region (Branch o b)))

  abbrev pub t_begins : (v : ℕ) → Test (BeginsUnit ns v)
  t_begins v = t_mate (role ns v) (λ o. ⊥) (λ o. no_test (λ e. e))

  abbrev pub t_ends : (v : ℕ) → Test (EndsUnit ns v)
  t_ends v = t_not (t_opening (role ns v))

  abbrev t_closing_of : (o c : ℕ) → Test (ClosingOf ns o c)
  t_closing_of o c =
      t_like (λ p. record { is_node = p.0; closes = p.1 }) (λ k. (k.is_node, k.closes)) (t_and (t_lt c (length ns)) (t_closing (role ns c) o))

  abbrev pub t_inner : (u v : ℕ) → Test (Inner ns u v)
  t_inner u v =
      t_like (λ p. record { within = p.0; leaves = p.1.0; enters = p.1.1 }) (λ i. (i.within, (i.leaves, i.enters)))
      (t_and (t_region (region ns u) (region ns v)) (t_and (t_ends u) (t_begins v)))

  abbrev t_home_of : (v h : ℕ) → Test (HomeOf ns v h)
  t_home_of v h =
      t_like (λ x. subst (HomeOf ns v) x.2 x.1) (λ i. (h, i, refl)) (t_home (region ns v) (λ g. g ≡ h) (λ g. t_eq g h))

  abbrev t_entry : (u v : ℕ) → Test (Entry ns u v)
  t_entry u v =
      t_like (λ p. record { opens = p.0; enters = p.1.0; inside = p.1.1 }) (λ e. (e.opens, (e.enters, e.inside)))
      (t_and (t_opening (role ns u)) (t_and (t_begins v) (t_home_of v u)))

  abbrev t_exit : (u v : ℕ) → Test (Exit ns u v)
  t_exit u v =
      t_like (λ p. record { leaves = p.0; home = p.1.0; inside = p.1.1; closes = p.1.2 }) (λ e. (e.leaves, (e.home, e.inside, e.closes)))
      (t_and (t_ends u) (t_home (region ns u) (λ h. role ns v ≡ Closing h) (λ h. t_closing (role ns v) h)))

  -- what holds of the home and the branch of a node holds of its home
  abbrev t_homes : (v : ℕ) (P : ℕ → Type 0) → ((h : ℕ) → Test (P h)) → Test ((h : ℕ) → HomeOf ns v h → P h)
  t_homes v P t = t_like (λ f h i. f h i.0 i.1) (λ f h b e. f h (b, e)) (t_branch (region ns v) (λ h b. P h) (λ h b. t h))

  abbrev t_closings : (o : ℕ) (P : ℕ → Type 0) → ((c : ℕ) → Test (P c)) → Test ((c : ℕ) → ClosingOf ns o c → P c)
  t_closings o P t =
      t_like (λ f c k. f c k.is_node k) (λ f c l k. f c k) (t_all (length ns) (λ c. ClosingOf ns o c → P c) (λ c. t_implies (t_closing_of o c) (t c)))

  abbrev t_pairs_up : (v : ℕ) → Test (PairsUp ns v)
  t_pairs_up v =
      t_like (λ p. record { mate_opens = p.0; closed_once = λ op. record { one_closing = (p.1 op).0; beside = (p.1 op).1 } })
      (λ s. (s.mate_opens, λ op. ((s.closed_once op).one_closing, (s.closed_once op).beside)))
      (t_and (t_mate (role ns v) (λ o. role ns o ≡ Opening) (λ o. t_opening (role ns o)))
      (t_implies (t_opening (role ns v))
      (t_and (t_just_one (length ns) (ClosingOf ns v) (λ c k. k.is_node) (t_closing_of v))
      (t_closings v (λ c. region ns c ≡ region ns v) (λ c. t_region (region ns c) (region ns v))))))

  -- each node in a branch of o but 0 has one in the branch before
  abbrev BranchBefore : ℕ → ℕ → Type 0
  BranchBefore o v = (h b : ℕ) → region ns v ≡ Branch h b → h ≡ o → 0 < b → HasBranch ns o (pred b)

  pub skips_from : (o : ℕ) → ((v : ℕ) → IsNode ns v → BranchBefore o v) → (b : ℕ) → HasBranch ns o (suc b) → HasBranch ns o b
  skips_from o f b (v, i) = f v i.is_node o (suc b) i.lies refl (omega arith)

  pub skips_to : (o : ℕ) → ((b : ℕ) → HasBranch ns o (suc b) → HasBranch ns o b) → (v : ℕ) → IsNode ns v → BranchBefore o v
  skips_to o f v n h b e q l =
      let more : suc (pred b) ≡ b = omega arith in
      f (pred b) (v, record { is_node = n; lies = cc })

  abbrev t_counts_up : (v : ℕ) → Test (CountsUp ns v)
  t_counts_up v =
      t_like (λ p op. record { branch_zero = (p op).0; none_skipped = skips_from v (p op).1 }) (λ s op. ((s op).branch_zero, skips_to v (s op).none_skipped))
      (t_implies (t_opening (role ns v))
      (t_and (t_has_branch v 0)
      (t_all (length ns) (BranchBefore v)
      (λ u. t_branch (region ns u) (λ h b. h ≡ v → 0 < b → HasBranch ns v (pred b))
      (λ h b. t_implies (t_eq h v) (t_implies (t_lt 0 b) (t_has_branch v (pred b))))))))

  module _ (arcs : List Arc) where
    -- what holds of the ends of each arc
    pub arcs_by : (R : ℕ → ℕ → Type 0) → ((k : ℕ) → k < length arcs → R (from arcs k) (to arcs k)) → (u v : ℕ) → Joined arcs u v → R u v
    arcs_by R h u v (k, a) = subst₂ R a.starts a.stops (h k a.is_arc)

    pub by_arcs : (R : ℕ → ℕ → Type 0) → ((u v : ℕ) → Joined arcs u v → R u v) → (k : ℕ) → k < length arcs → R (from arcs k) (to arcs k)
    by_arcs R h k l = h (from arcs k) (to arcs k) (k, record { is_arc = l; starts = refl; stops = refl })

    abbrev pub t_each_arc : (R : ℕ → ℕ → Type 0) → ((u v : ℕ) → Test (R u v)) → Test ((u v : ℕ) → Joined arcs u v → R u v)
    t_each_arc R t = t_like (arcs_by R) (by_arcs R) (t_all (length arcs) (λ k. R (from arcs k) (to arcs k)) (λ k. t (from arcs k) (to arcs k)))

    -- of each arc into v
    abbrev t_into : (v : ℕ) (R : ℕ → Type 0) → ((u : ℕ) → Test (R u)) → Test ((u : ℕ) → Joined arcs u v → R u)
    t_into v R t =
        t_like (λ f u j. f u v j refl) (λ f u w j e. f u (subst (Joined arcs u) e j))
        (t_each_arc (λ u w. w ≡ v → R u) (λ u w. t_implies (t_eq w v) (t u)))

    -- of each arc out of v
    abbrev pub t_out_of : (v : ℕ) (R : ℕ → Type 0) → ((w : ℕ) → Test (R w)) → Test ((w : ℕ) → Joined arcs v w → R w)
    t_out_of v R t =
        t_like (λ f w j. f v w j refl) (λ f u w j e. f w (subst (λ (x : ℕ). Joined arcs x w) e j))
        (t_each_arc (λ u w. u ≡ v → R w) (λ u w. t_implies (t_eq u v) (t w)))

    abbrev pub t_joined : (u v : ℕ) → Test (Joined arcs u v)
    t_joined u v =
        t_like (λ s. (s.0, record { is_arc = s.1; starts = s.2.0; stops = s.2.1 })) (λ j. (j.0, j.1.is_arc, (j.1.starts, j.1.stops)))
        (t_some (length arcs) (λ k. (from arcs k ≡ u) × (to arcs k ≡ v)) (λ k. t_and (t_eq (from arcs k) u) (t_eq (to arcs k) v)))

    abbrev t_first : (v : ℕ) → Test (First ns arcs v)
    t_first v =
        t_like (λ p. record { begins = p.0; none_before = p.1 }) (λ f. (f.begins, f.none_before))
        (t_and (t_begins v) (t_into v (λ u. Inner ns u v → ⊥) (λ u. t_not (t_inner u v))))

    abbrev pub t_last : (v : ℕ) → Test (Last ns arcs v)
    t_last v =
        t_like (λ p. record { ends = p.0; none_after = p.1 }) (λ f. (f.ends, f.none_after))
        (t_and (t_ends v) (t_out_of v (λ w. Inner ns v w → ⊥) (λ w. t_not (t_inner v w))))

    abbrev t_lawful : (k : ℕ) → Test (LawfulArc ns arcs k)
    t_lawful k =
        t_like (λ p. record { kind = p.0; not_before = p.1 }) (λ s. (s.kind, s.not_before))
        (t_and (t_or (t_inner (from arcs k) (to arcs k)) (t_or (t_entry (from arcs k) (to arcs k)) (t_exit (from arcs k) (to arcs k))))
        (t_all k (λ j. from arcs j ≡ from arcs k → to arcs j ≡ to arcs k → ⊥)
        (λ j. t_implies (t_eq (from arcs j) (from arcs k)) (t_not (t_eq (to arcs j) (to arcs k))))))

    abbrev t_has_ends : (r : Region) → Test (HasEnds ns arcs r)
    t_has_ends r =
        t_like (λ p. record { one_first = p.0; one_last = p.1 }) (λ s. (s.one_first, s.one_last))
        (t_and (t_just_one (length ns) (λ u. InRegion ns r u × First ns arcs u) (λ u p. p.0.is_node) (λ u. t_and (t_in_region r u) (t_first u)))
        (t_just_one (length ns) (λ u. InRegion ns r u × Last ns arcs u) (λ u p. p.0.is_node) (λ u. t_and (t_in_region r u) (t_last u))))

    abbrev t_wired : (v : ℕ) → Test (Wired ns arcs v)
    t_wired v =
        t_like
        (λ p. record { entry_there = p.0; no_other_entry = p.1.0; exit_there = λ h c i k. p.1.1.0 h i c k; no_other_exit = p.1.1.1 })
        (λ s. (s.entry_there, (s.no_other_entry, (λ h i c k. s.exit_there h c i k, s.no_other_exit))))
        (t_and (t_homes v (λ h. First ns arcs v → Joined arcs h v) (λ h. t_implies (t_first v) (t_joined h v)))
        (t_and (t_into v (λ u. Entry ns u v → First ns arcs v) (λ u. t_implies (t_entry u v) (t_first v)))
        (t_and
        (t_homes v (λ h. (c : ℕ) → ClosingOf ns h c → Last ns arcs v → Joined arcs v c)
        (λ h. t_closings h (λ c. Last ns arcs v → Joined arcs v c) (λ c. t_implies (t_last v) (t_joined v c))))
        (t_out_of v (λ c. Exit ns v c → Last ns arcs v) (λ c. t_implies (t_exit v c) (t_last v))))))

    abbrev pub t_shaped : Test (Shaped ns arcs)
    t_shaped =
        t_like
        (λ p. record {
          homes_are_openings = p.0;
          mates_pair_up = p.1.0;
          branches_count_up = p.1.1.0;
          arcs_are_lawful = p.1.1.1.0;
          one_first_one_last = p.1.1.1.1.0;
          blocks_are_wired = p.1.1.1.1.1;
        })
        (λ s. (s.homes_are_openings, (s.mates_pair_up, (s.branches_count_up, (s.arcs_are_lawful, (s.one_first_one_last, s.blocks_are_wired))))))
        (t_and (t_all (length ns) (HomeOpens ns) (λ v. t_homes v (λ h. role ns h ≡ Opening) (λ h. t_opening (role ns h))))
        (t_and (t_all (length ns) (PairsUp ns) t_pairs_up)
        (t_and (t_all (length ns) (CountsUp ns) t_counts_up)
        (t_and (t_all (length arcs) (LawfulArc ns arcs) t_lawful)
        (t_and (t_all (length ns) (λ v. HasEnds ns arcs (region ns v)) (λ v. t_has_ends (region ns v))) (t_all (length ns) (Wired ns arcs) t_wired))))))

    -- of each node
    pub record NodeRanged (v : ℕ) : Type 0 where
      pub home_smaller : (h : ℕ) → HomeOf ns v h → h < v
      pub branch_few : (h b : ℕ) → region ns v ≡ Branch h b → b < 8
      pub mate_smaller : (o : ℕ) → role ns v ≡ Closing o → o < v
      pub time_positive : 0 < time ns v
      pub time_short : time ns v ≤ 65535

    abbrev t_node_ranged : (v : ℕ) → Test (NodeRanged v)
    t_node_ranged v =
        t_like
        (λ p. record { home_smaller = p.0; branch_few = p.1.0; mate_smaller = p.1.1.0; time_positive = p.1.1.1.0; time_short = p.1.1.1.1 })
        (λ r. (r.home_smaller, (r.branch_few, (r.mate_smaller, (r.time_positive, r.time_short)))))
        (t_and (t_homes v (λ h. h < v) (λ h. t_lt h v))
        (t_and (t_branch (region ns v) (λ h b. b < 8) (λ h b. t_lt b 8))
        (t_and (t_mate (role ns v) (λ o. o < v) (λ o. t_lt o v)) (t_and (t_lt 0 (time ns v)) (t_le (time ns v) 65535)))))

    -- the counts, and the ranges of the nodes and of the arcs
    abbrev pub t_parts_ranged : Test (((1 ≤ length ns) × ((length ns ≤ 64) × (length arcs ≤ 256))) × (((v : ℕ) → IsNode ns v → NodeRanged v) × ((u v : ℕ) → Joined arcs u v → (u < v) × IsNode ns v)))
    t_parts_ranged =
        t_and
        (t_and (t_le 1 (length ns)) (t_and (t_le (length ns) 64) (t_le (length arcs) 256)))
        (t_and (t_all (length ns) NodeRanged t_node_ranged) (t_each_arc (λ u v. (u < v) × IsNode ns v) (λ u v. t_and (t_lt u v) (t_lt v (length ns)))))

    pub ranged_by : t_parts_ranged.answer ≡ true → Ranged ns arcs
    ranged_by e =
        let p = holds t_parts_ranged e in
        let node = p.1.0 in
        let arc = p.1.1 in
        record {
          some_node = p.0.0;
          few_nodes = p.0.1.0;
          few_arcs = p.0.1.1;
          homes_smaller = λ v h n i. (node v n).home_smaller h i;
          branches_few = λ v h b n e'. (node v n).branch_few h b e';
          mates_smaller = λ v o n c. (node v n).mate_smaller o c;
          times_positive = λ v n. (node v n).time_positive;
          times_short = λ v n. (node v n).time_short;
          arcs_forward = λ u v j. (arc u v j).0;
          arcs_between_nodes = λ u v j. (arc u v j).1;
        }
