-- What follows from a task's shape.
use Rattle.std.proofs.Common.{◌≡◌, ℕ, suc, ◌<◌, ◌⊎◌, List, sym, ◌∙◌, subst, subst₂, inl, inr, arith}
use Rattle.std.proofs.lemmas.Bool.{cases_order}
use Rattle.table.specs.declared.records.Arc.{Arc}
use Rattle.table.specs.declared.records.Node.{Node}
use Rattle.table.specs.declared.records.Region.{Region}
use Rattle.table.specs.declared.records.Role.TheVariants.{Opening}
use Rattle.sets.specs.Sets.{JustOne}
use Rattle.task.specs.Graph.{role, region, IsNode, HomeOf, InRegion, HasBranch, ClosingOf, ArcAt, Joined, Entry, Exit, OfAKind, First, Last, Ranged}
use Rattle.task.specs.Shape.{HasEnds, Shaped}
use Rattle.task.proofs.Mated.{opening_is_node}

module _ (ns : List Node) (arcs : List Arc) (shaped : Shaped ns arcs) where
  -- homes and mates
  pub home_opens_lem : (v h : ℕ) → IsNode ns v → HomeOf ns v h → role ns h ≡ Opening
  home_opens_lem v h n i = shaped.homes_are_openings v n h i

  pub home_is_node : (v h : ℕ) → IsNode ns v → HomeOf ns v h → IsNode ns h
  home_is_node v h n i = opening_is_node ns h (home_opens_lem v h n i)

  pub mate_opens : (o c : ℕ) → ClosingOf ns o c → role ns o ≡ Opening
  mate_opens o c k = (shaped.mates_pair_up c k.is_node).mate_opens o k.closes

  pub one_closing : (o : ℕ) → role ns o ≡ Opening → JustOne (ClosingOf ns o)
  one_closing o e = ((shaped.mates_pair_up o (opening_is_node ns o e)).closed_once e).one_closing

  pub same_closing : (o c d : ℕ) → ClosingOf ns o c → ClosingOf ns o d → c ≡ d
  same_closing o c d k l = let one = one_closing o (mate_opens o c k) in one.no_other c k ∙ sym (one.no_other d l)

  pub closing_beside : (o c : ℕ) → ClosingOf ns o c → region ns c ≡ region ns o
  closing_beside o c k = let e = mate_opens o c k in ((shaped.mates_pair_up o (opening_is_node ns o e)).closed_once e).beside c k

  -- branches
  pub branch_zero : (o : ℕ) → role ns o ≡ Opening → HasBranch ns o 0
  branch_zero o e = (shaped.branches_count_up o (opening_is_node ns o e) e).branch_zero

  pub none_skipped : (o b : ℕ) → role ns o ≡ Opening → HasBranch ns o (suc b) → HasBranch ns o b
  none_skipped o b e i = (shaped.branches_count_up o (opening_is_node ns o e) e).none_skipped b i

  -- arcs
  pub arc_kind : (u v : ℕ) → Joined arcs u v → OfAKind ns u v
  arc_kind u v (k, a) = subst₂ (OfAKind ns) a.starts a.stops (shaped.arcs_are_lawful k a.is_arc).kind

  pub arc_once : (u v j k : ℕ) → ArcAt arcs j u v → ArcAt arcs k u v → j ≡ k
  arc_once u v j k a b = go (cases_order j k)
    where
      go : (j ≡ k) ⊎ ((j < k) ⊎ (k < j)) → j ≡ k
      go (inl e) = e
      go (inr (inl l)) = absurd ((shaped.arcs_are_lawful k b.is_arc).not_before j l (a.starts ∙ sym b.starts) (a.stops ∙ sym b.stops))
      go (inr (inr l)) = absurd ((shaped.arcs_are_lawful j a.is_arc).not_before k l (b.starts ∙ sym a.starts) (b.stops ∙ sym a.stops))

  -- regions that have a node
  ends_of : (r : Region) (v : ℕ) → InRegion ns r v → HasEnds ns arcs r
  ends_of r v i = subst (λ (x : Region). HasEnds ns arcs x) i.lies (shaped.one_first_one_last v i.is_node)

  pub one_first : (r : Region) (v : ℕ) → InRegion ns r v → JustOne (λ u. InRegion ns r u × First ns arcs u)
  one_first r v i = (ends_of r v i).one_first

  pub one_last : (r : Region) (v : ℕ) → InRegion ns r v → JustOne (λ u. InRegion ns r u × Last ns arcs u)
  one_last r v i = (ends_of r v i).one_last

  -- entry and exit arcs
  pub entry_there : (o v : ℕ) → IsNode ns v → HomeOf ns v o → First ns arcs v → Joined arcs o v
  entry_there o v n i f = (shaped.blocks_are_wired v n).entry_there o i f

  pub exit_there : (o v c : ℕ) → IsNode ns v → HomeOf ns v o → ClosingOf ns o c → Last ns arcs v → Joined arcs v c
  exit_there o v c n i k l = (shaped.blocks_are_wired v n).exit_there o c i k l

  module _ (ranged : Ranged ns arcs) where
    pub no_other_entry : (o v : ℕ) → Joined arcs o v → Entry ns o v → First ns arcs v
    no_other_entry o v j e = (shaped.blocks_are_wired v (ranged.arcs_between_nodes o v j)).no_other_entry o j e

    pub no_other_exit : (v c : ℕ) → Joined arcs v c → Exit ns v c → Last ns arcs v
    no_other_exit v c j e =
        let n : IsNode ns v = omega (arith, ranged.arcs_forward v c j, ranged.arcs_between_nodes v c j) in
        (shaped.blocks_are_wired v n).no_other_exit c j e
