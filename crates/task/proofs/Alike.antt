-- The shape of a task does not depend on its times.
use Rattle.std.proofs.Common.{◌≡◌, ℕ, suc, List, length, sym, ◌∙◌, subst, inl, inr, arith}
use Rattle.table.specs.declared.records.Arc.{Arc}
use Rattle.table.specs.declared.records.Node.{Node}
use Rattle.table.specs.declared.records.Region.{Region}
use Rattle.table.specs.declared.records.Region.TheVariants.{Branch}
use Rattle.task.specs.Graph.{role, region, IsNode, HomeOf, InRegion, HasBranch, ClosingOf, BeginsUnit, EndsUnit, Inner, Entry, Exit, OfAKind, First, Last}
use Rattle.task.specs.Graph.{from, to}
use Rattle.task.proofs.Ended.{just_one_like}
use Rattle.task.specs.Shape.{HomeOpens, ClosedOnce, PairsUp, CountsUp, LawfulArc, HasEnds, HasEndsAt, Wired, Shaped}

-- as many nodes, of the same roles in the same regions
pub record Alike (ns ms : List Node) : Type 0 where
  pub sized : length ns ≡ length ms
  pub roles : (v : ℕ) → role ns v ≡ role ms v
  pub regions : (v : ℕ) → region ns v ≡ region ms v

turned : (ns ms : List Node) → Alike ns ms → Alike ms ns
turned ns ms a = record { sized = sym a.sized; roles = λ v. sym (a.roles v); regions = λ v. sym (a.regions v) }

module _ (ns ms : List Node) (a : Alike ns ms) where
  is_node : (v : ℕ) → IsNode ns v → IsNode ms v
  is_node v i = omega (arith, a.sized)

  home_of : (v h : ℕ) → HomeOf ns v h → HomeOf ms v h
  home_of v h (b, e) = (b, sym (a.regions v) ∙ e)

  in_region : (r : Region) (v : ℕ) → InRegion ns r v → InRegion ms r v
  in_region r v i = record { is_node = is_node v i.is_node; lies = sym (a.regions v) ∙ i.lies }

  has_branch : (h b : ℕ) → HasBranch ns h b → HasBranch ms h b
  has_branch h b (v, i) = (v, in_region (Branch h b) v i)

  closing_of : (o c : ℕ) → ClosingOf ns o c → ClosingOf ms o c
  closing_of o c k = record { is_node = is_node c k.is_node; closes = sym (a.roles c) ∙ k.closes }

  begins : (v : ℕ) → BeginsUnit ns v → BeginsUnit ms v
  begins v f o e = f o (a.roles v ∙ e)

  ends : (v : ℕ) → EndsUnit ns v → EndsUnit ms v
  ends v f e = f (a.roles v ∙ e)

  inner : (u v : ℕ) → Inner ns u v → Inner ms u v
  inner u v k = record { within = sym (a.regions u) ∙ k.within ∙ a.regions v; leaves = ends u k.leaves; enters = begins v k.enters }

  entry : (u v : ℕ) → Entry ns u v → Entry ms u v
  entry u v k = record { opens = sym (a.roles u) ∙ k.opens; enters = begins v k.enters; inside = home_of v u k.inside }

  exit : (u v : ℕ) → Exit ns u v → Exit ms u v
  exit u v k = record { leaves = ends u k.leaves; home = k.home; inside = home_of u k.home k.inside; closes = sym (a.roles v) ∙ k.closes }

  of_a_kind : (u v : ℕ) → OfAKind ns u v → OfAKind ms u v
  of_a_kind u v (inl k) = inl (inner u v k)
  of_a_kind u v (inr (inl k)) = inr (inl (entry u v k))
  of_a_kind u v (inr (inr k)) = inr (inr (exit u v k))

module _ (ns ms : List Node) (a : Alike ns ms) (arcs : List Arc) where
  b : Alike ms ns
  b = turned ns ms a

  first_unit : (v : ℕ) → First ns arcs v → First ms arcs v
  first_unit v f = record { begins = begins ns ms a v f.begins; none_before = λ u j k. f.none_before u j (inner ms ns b u v k) }

  last_unit : (v : ℕ) → Last ns arcs v → Last ms arcs v
  last_unit v l = record { ends = ends ns ms a v l.ends; none_after = λ w j k. l.none_after w j (inner ms ns b v w k) }

module _ (ns ms : List Node) (a : Alike ns ms) (arcs : List Arc) where
  c : Alike ms ns
  c = turned ns ms a

  home_opens_lem : (v : ℕ) → HomeOpens ns v → HomeOpens ms v
  home_opens_lem v f h k = sym (a.roles h) ∙ f h (home_of ms ns c v h k)

  closed_once : (o : ℕ) → ClosedOnce ns o → ClosedOnce ms o
  closed_once o k = record {
    one_closing = just_one_like (ClosingOf ns o) (ClosingOf ms o) (closing_of ns ms a o) (closing_of ms ns c o) k.one_closing;
    beside = λ x l. sym (a.regions x) ∙ k.beside x (closing_of ms ns c o x l) ∙ a.regions o;
  }

  pairs_up_lem : (v : ℕ) → PairsUp ns v → PairsUp ms v
  pairs_up_lem v p = record {
    mate_opens = λ o e. sym (a.roles o) ∙ p.mate_opens o (a.roles v ∙ e);
    closed_once = λ e. closed_once v (p.closed_once (a.roles v ∙ e));
  }

  counts_up : (v : ℕ) → CountsUp ns v → CountsUp ms v
  counts_up v f e =
      let r = f (a.roles v ∙ e) in
      record {
        branch_zero = has_branch ns ms a v 0 r.branch_zero;
        none_skipped = λ n h. has_branch ns ms a v n (r.none_skipped n (has_branch ms ns c v (suc n) h));
      }

  lawful_arc : (k : ℕ) → LawfulArc ns arcs k → LawfulArc ms arcs k
  lawful_arc k l = record { kind = of_a_kind ns ms a (from arcs k) (to arcs k) l.kind; not_before = l.not_before }

  has_ends : (r : Region) → HasEnds ns arcs r → HasEnds ms arcs r
  has_ends r h = record {
    one_first = just_one_like (λ u. InRegion ns r u × First ns arcs u) (λ u. InRegion ms r u × First ms arcs u)
        (λ u p. (in_region ns ms a r u p.0, first_unit ns ms a arcs u p.1))
        (λ u p. (in_region ms ns c r u p.0, first_unit ms ns c arcs u p.1)) h.one_first;
    one_last = just_one_like (λ u. InRegion ns r u × Last ns arcs u) (λ u. InRegion ms r u × Last ms arcs u)
        (λ u p. (in_region ns ms a r u p.0, last_unit ns ms a arcs u p.1))
        (λ u p. (in_region ms ns c r u p.0, last_unit ms ns c arcs u p.1)) h.one_last;
  }

  has_ends_at : (v : ℕ) → HasEndsAt ns arcs v → HasEndsAt ms arcs v
  has_ends_at v h = subst (HasEnds ms arcs) (a.regions v) (has_ends (region ns v) h)

  wired : (v : ℕ) → Wired ns arcs v → Wired ms arcs v
  wired v w = record {
    entry_there = λ h k f. w.entry_there h (home_of ms ns c v h k) (first_unit ms ns c arcs v f);
    no_other_entry = λ u j k. first_unit ns ms a arcs v (w.no_other_entry u j (entry ms ns c u v k));
    exit_there = λ h x k l f. w.exit_there h x (home_of ms ns c v h k) (closing_of ms ns c h x l) (last_unit ms ns c arcs v f);
    no_other_exit = λ x j k. last_unit ns ms a arcs v (w.no_other_exit x j (exit ms ns c v x k));
  }

  pub alike_shaped : Shaped ns arcs → Shaped ms arcs
  alike_shaped s = record {
    homes_are_openings = λ v i. home_opens_lem v (s.homes_are_openings v (is_node ms ns c v i));
    mates_pair_up = λ v i. pairs_up_lem v (s.mates_pair_up v (is_node ms ns c v i));
    branches_count_up = λ v i. counts_up v (s.branches_count_up v (is_node ms ns c v i));
    arcs_are_lawful = λ k l. lawful_arc k (s.arcs_are_lawful k l);
    one_first_one_last = λ v i. has_ends_at v (s.one_first_one_last v (is_node ms ns c v i));
    blocks_are_wired = λ v i. wired v (s.blocks_are_wired v (is_node ms ns c v i));
  }
