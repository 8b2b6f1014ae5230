-- A lawful task stays lawful when the time of a node is set to one in range.
use Rattle.std.proofs.Common.{◌≡◌, ℕ, suc, ◌<◌, ◌⊎◌, List, length, get_or, take, set, sym, refl, ap, ◌∙◌, subst, inl, inr, arith}
use Rattle.std.proofs.lemmas.List.{length-set, length-take, get_or-set_same, get_or-set_other, get_or-take}
use Rattle.std.proofs.Math.Seq.{take-set-lt}
use Rattle.std.proofs.lemmas.Bool.{cases_eq}
use Rattle.table.specs.declared.records.Arc.{Arc}
use Rattle.table.specs.declared.records.Node.{Node}
use Rattle.table.specs.declared.records.Table.{Table}
use Rattle.table.specs.declared.records.Timing.{Timing}
use Rattle.table.specs.Range.{NodeInRange, ArcInRange}
use Rattle.table.specs.Whole.{Lawful, no_node, no_arc}
use Rattle.task.specs.Graph.{role, region, IsNode}
use Rattle.task.specs.Held.{nodes_of, arcs_of, LawfulTask}
use Rattle.task.specs.Shape.{Shaped}
use Rattle.task.specs.Retimed.{with_time, retimed, CanRetime}
use Rattle.task.proofs.Alike.{Alike, alike_shaped}

-- the nodes of the retimed table are the old ones, but for the time of v
pub retimed_nodes : (table : Table) (v t : ℕ) → IsNode (nodes_of table) v
    → nodes_of (retimed table v t) ≡ set (nodes_of table) v (with_time t (get_or (nodes_of table) v no_node))
retimed_nodes table v t i =
    let len = table.nodes.len in
    let items = table.nodes.items in
    let within : v < len = omega (arith, length-take len items) in
    take-set-lt len items v (with_time t (get_or items v no_node)) within
    ∙ ap (λ (n : Node). set (take len items) v (with_time t n)) (sym (get_or-take len items v no_node within))

module _ (ns : List Node) (v t : ℕ) (i : IsNode ns v) where
  abbrev now_timed : List Node
  now_timed = set ns v (with_time t (get_or ns v no_node))

  -- what holds of the old node v and of the others holds of the new list
  at_each : (P : ℕ → Node → Type 0) → P v (with_time t (get_or ns v no_node)) → ((u : ℕ) → (u ≡ v → ⊥) → P u (get_or ns u no_node))
      → (u : ℕ) → P u (get_or now_timed u no_node)
  at_each P here others u = go (cases_eq u v)
    where
      go : (u ≡ v) ⊎ (u ≡ v → ⊥) → P u (get_or now_timed u no_node)
      go (inl e) =
          subst (λ (w : ℕ). P w (get_or now_timed w no_node)) (sym e)
          (subst (P v) (sym (get_or-set_same ns v (with_time t (get_or ns v no_node)) no_node i)) here)
      go (inr d) = subst (P u) (sym (get_or-set_other ns v u (with_time t (get_or ns v no_node)) no_node d)) (others u d)

  retimed_alike : Alike ns now_timed
  retimed_alike = record {
    sized = sym (length-set ns v (with_time t (get_or ns v no_node)));
    roles = at_each (λ u n. role ns u ≡ n.role) refl (λ u d. refl);
    regions = at_each (λ u n. region ns u ≡ n.region) refl (λ u d. refl);
  }

  retimed_lawful : (timing : Timing) (arcs : List Arc) → 1 < suc t → t < 65536 → Lawful timing ns arcs → Lawful timing now_timed arcs
  retimed_lawful timing arcs some short l =
      let same = length-set ns v (with_time t (get_or ns v no_node)) in
      record {
        some_node = omega (arith, l.some_node);
        few_nodes = omega (arith, l.few_nodes);
        few_arcs = l.few_arcs;
        task_in_range = l.task_in_range;
        nodes_in_range = λ u h.
            at_each (λ w n. w < length ns → NodeInRange w n)
            (λ j. let r = l.nodes_in_range v j in record { role = r.role; region = r.region; some_time = omega arith; short_time = omega arith })
            (λ w d j. l.nodes_in_range w j) u (omega arith);
        arcs_in_range = λ k h. subst (λ (n : ℕ). ArcInRange n (get_or arcs k no_arc)) (sym same) (l.arcs_in_range k h);
      }

pub retimed_task : (table : Table) (v t : ℕ) → CanRetime table v t → LawfulTask table → LawfulTask (retimed table v t)
retimed_task table v t can l =
    let ns = nodes_of table in
    let i = can.is_node in
    let e = sym (retimed_nodes table v t i) in
    record {
      in_range = subst (λ (ms : List Node). Lawful table.timing ms (arcs_of table)) e
          (retimed_lawful ns v t i table.timing (arcs_of table) (omega (arith, can.some_time)) (omega (arith, can.short_time)) l.in_range);
      shaped = subst (λ (ms : List Node). Shaped ms (arcs_of table)) e
          (alike_shaped ns (now_timed ns v t i) (retimed_alike ns v t i) (arcs_of table) l.shaped);
    }
