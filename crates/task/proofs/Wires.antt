-- Entry and exit arcs, and the first and last units of branches.
use Rattle.std.proofs.Common.{◌≡◌, ℕ, List, sym, ◌∙◌, subst}
use Rattle.table.specs.declared.records.Arc.{Arc}
use Rattle.table.specs.declared.records.Node.{Node}
use Rattle.table.specs.declared.records.Role.TheVariants.{Closing}
use Rattle.task.specs.declared.wiring.Gates.{Gates}
use Rattle.task.specs.Gates.{Agree, GatesOf, Gated}
use Rattle.task.specs.Graph.{role, IsNode, HomeOf, ClosingOf, Joined, Entry, Exit, First, Last, Ranged}
use Rattle.task.specs.Shape.{AllHomesAreOpenings, AllMatesPairUp, ClosedOnce, Wired}
use Rattle.task.proofs.Mated.{opening_is_node}
use Rattle.task.proofs.Regions.{one_home}

module _ (ns : List Node) (arcs : List Arc) (gates : Gates) (ranged : Ranged ns arcs) (homes : AllHomesAreOpenings ns) (mates : AllMatesPairUp ns) (g : GatesOf ns arcs gates) (v : ℕ) (n : IsNode ns v) where
  closed : (h : ℕ) → HomeOf ns v h → ClosedOnce ns h
  closed h i = let o = homes v n h i in (mates h (opening_is_node ns h o)).closed_once o

  pub wired_gates : Gated ns gates v → Wired ns arcs v
  wired_gates w = record { entry_there = entry_there; no_other_entry = no_other_entry; exit_there = exit_there; no_other_exit = no_other_exit }
    where
      entry_there : (h : ℕ) → HomeOf ns v h → First ns arcs v → Joined arcs h v
      entry_there h i f =
          let e = g.entered.only v ((w.entry h i).forth (g.firsts.every v (record { is_node = n; first = f }))) in
          subst (λ (x : ℕ). Joined arcs x v) (one_home ns v e.0 h e.2.inside i) e.1

      no_other_entry : (u : ℕ) → Joined arcs u v → Entry ns u v → First ns arcs v
      no_other_entry = λ u j e. (g.firsts.only v ((w.entry u e.inside).back (g.entered.every v (u, j, e)))).first

      exit_there : (h c : ℕ) → HomeOf ns v h → ClosingOf ns h c → Last ns arcs v → Joined arcs v c
      exit_there h c i k l =
          let e = g.left.only v ((w.exit h i).forth (g.lasts.every v (record { is_node = n; last = l }))) in
          let same = one_home ns v e.2.home h e.2.inside i in
          let closing : ClosingOf ns h e.0 =
          record { is_node = ranged.arcs_between_nodes v e.0 e.1; closes = subst (λ (x : ℕ). role ns e.0 ≡ Closing x) same e.2.closes } in
          let one = (closed h i).one_closing in
          subst (λ (x : ℕ). Joined arcs v x) (one.no_other e.0 closing ∙ sym (one.no_other c k)) e.1

      no_other_exit : (c : ℕ) → Joined arcs v c → Exit ns v c → Last ns arcs v
      no_other_exit = λ c j e. (g.lasts.only v ((w.exit e.home e.inside).back (g.left.every v (c, j, e)))).last

  pub gates_wired : Wired ns arcs v → Gated ns gates v
  gates_wired w = record { entry = entry; exit = exit }
    where
      entry : (h : ℕ) → HomeOf ns v h → Agree gates.firsts gates.entered v
      entry h i =
          record {
            forth = λ f.
                let first = (g.firsts.only v f).first in
                g.entered.every v (h, w.entry_there h i first, record { opens = homes v n h i; enters = first.begins; inside = i });
            back = λ e. let r = g.entered.only v e in g.firsts.every v (record { is_node = n; first = w.no_other_entry r.0 r.1 r.2 });
          }

      exit : (h : ℕ) → HomeOf ns v h → Agree gates.lasts gates.left v
      exit h i =
          let one = (closed h i).one_closing in
          record {
            forth = λ l.
                let last = (g.lasts.only v l).last in
                let closing = one.has_it in
                g.left.every v
                (one.the_one, w.exit_there h one.the_one i closing last, record { leaves = last.ends; home = h; inside = i; closes = closing.closes });
            back = λ e. let r = g.left.only v e in g.lasts.every v (record { is_node = n; last = w.no_other_exit r.0 r.1 r.2 });
          }
