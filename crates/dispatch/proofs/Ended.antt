-- A job ends with the last node: it ends the last unit of the top region.
use Rattle.std.proofs.Common.{◌≡◌, ℕ, ◌-◌, ◌≢◌, List, length, sym, refl, ◌∙◌, subst, arith}
use Rattle.jobs.specs.declared.node_state.NodeState.{NodeState}
use Rattle.jobs.specs.Job.{HasEnded, JobEnded}
use Rattle.table.specs.declared.records.Arc.{Arc}
use Rattle.table.specs.declared.records.Node.{Node}
use Rattle.table.specs.declared.records.Region.{Region}
use Rattle.table.specs.declared.records.Region.TheVariants.{Top, Branch}
use Rattle.table.specs.declared.records.Role.TheVariants.{Opening}
use Rattle.task.specs.Graph.{role, region, IsNode, InRegion, Joined, Last, Ranged}
use Rattle.task.specs.Shape.{Shaped}

module _ (ns : List Node) (arcs : List Arc) (g : Ranged ns arcs) (shape : Shaped ns arcs) where
  abbrev last_node : ℕ
  last_node = length ns - 1

  is_node : IsNode ns last_node
  is_node = omega (arith, g.some_node)

  no_arc_out : (w : ℕ) → Joined arcs last_node w → ⊥
  no_arc_out w j = omega (arith, g.arcs_forward last_node w j, g.arcs_between_nodes last_node w j)

  -- its closing would come after it
  no_opening : role ns last_node ≢ Opening
  no_opening e =
      let one = ((shape.mates_pair_up last_node is_node).closed_once e).one_closing in
      omega (arith, one.has_it.is_node, g.mates_smaller one.the_one last_node one.has_it.is_node one.has_it.closes)

  is_last : Last ns arcs last_node
  is_last = record { ends = no_opening; none_after = λ w j _. no_arc_out w j }

  -- in a branch it would have an exit arc
  at_top : region ns last_node ≡ Top
  at_top = go (region ns last_node) refl
    where
      go : (r : Region) → region ns last_node ≡ r → r ≡ Top
      go Top e = refl
      go (Branch h b) e =
          let smaller = g.homes_smaller last_node h is_node (b, e) in
          let opens = shape.homes_are_openings last_node is_node h (b, e) in
          let one = ((shape.mates_pair_up h (omega (arith, smaller, is_node))).closed_once opens).one_closing in
          absurd (no_arc_out one.the_one ((shape.blocks_are_wired last_node is_node).exit_there h one.the_one (b, e) one.has_it is_last))

  module _ (job : List NodeState) where
    pub ends_job : HasEnded job last_node → JobEnded ns arcs job
    ends_job h = record { last_node = last_node; at_top = record { is_node = is_node; lies = at_top }; is_last = is_last; ended = h }

    pub job_ends : JobEnded ns arcs job → HasEnded job last_node
    job_ends e =
        let one = (shape.one_first_one_last last_node is_node).one_last in
        let here : InRegion ns (region ns last_node) e.last_node = record { is_node = e.at_top.is_node; lies = e.at_top.lies ∙ sym at_top } in
        let same : e.last_node ≡ last_node =
        one.no_other e.last_node (here, e.is_last) ∙ sym (one.no_other last_node (record { is_node = is_node; lies = refl }, is_last)) in
        subst (HasEnded job) same e.ended
