-- Tasks that are the same ask for the same.
use Rattle.std.proofs.Common.{ℕ, List, Some, None, Option, sym, refl, ◌∙◌, subst}
use Rattle.bounds.specs.declared.plan.Demand.{Demand}
use Rattle.bounds.specs.Equation.{held, SameDemand}
use Rattle.bounds.proofs.Same.{same_answer}
use Rattle.table.specs.declared.records.Arc.{Arc}
use Rattle.table.specs.declared.records.Node.{Node}
use Rattle.table.specs.declared.records.Table.{Table}
use Rattle.task.specs.Graph.{Joined}
use Rattle.task.specs.Held.{nodes_of, arcs_of}
use Rattle.paths.specs.Paths.{Path, end, step, first, Chain}
use Rattle.workload.specs.Measures.{PathTaken, IsGreatestLength, IsGreatestTotal}
use Rattle.workload.proofs.Paths.{one_greatest_lem}
use Rattle.admission.specs.Demands.{Demands}
use Rattle.admission.specs.Same.{SameArcs, SameTask, SameSlot, SlotDemands, SameTasksAskTheSame, SameTasksSameBounds}

module _ (ns : List Node) (a b : List Arc) (s : SameArcs a b) where
  chain_over : (p : Path) → Chain (Joined a) p → Chain (Joined b) p
  chain_over (end v) c = tt
  chain_over (step v p) c = (s.forth v (first p) c.0, chain_over p c.1)

  path_over : (pick : ℕ → ℕ) (p : Path) → PathTaken ns a pick p → PathTaken ns b pick p
  path_over pick p t = record {
    settling = t.settling;
    path = record { nodes = t.path.nodes; joined = chain_over p t.path.joined };
    taken = t.taken;
  }

turned : (a b : List Arc) → SameArcs a b → SameArcs b a
turned a b s = record { forth = s.back; back = s.forth }

-- the greatest length depends on which nodes are joined, and not on the sequence of the arcs
length_over : (ns : List Node) (a b : List Arc) (l : ℕ) → SameArcs a b → IsGreatestLength ns a l → IsGreatestLength ns b l
length_over ns a b l s g = record {
  attained = (g.attained.0, g.attained.1, path_over ns a b s g.attained.0 g.attained.1 g.attained.2, g.attained.3);
  not_exceeded = λ pick p t. g.not_exceeded pick p (path_over ns b a (turned a b s) pick p t);
}

pub same_task_same_demand : (a b : Table) (d e : Demand) → SameTask a b → Demands a d → Demands b e → SameDemand (Some d) (Some e)
same_task_same_demand a b d e s p q =
    let ns = nodes_of b in
    let longest = subst (λ (l : List Node). IsGreatestLength l (arcs_of a) d.longest) s.nodes p.longest in
    let total = subst (λ (l : List Node). IsGreatestTotal l d.total) s.nodes p.total in (
      p.period ∙ s.period ∙ sym q.period,
      p.deadline ∙ s.deadline ∙ sym q.deadline,
      one_greatest_lem.of_lengths ns (arcs_of b) d.longest e.longest
          (length_over ns (arcs_of a) (arcs_of b) d.longest s.arcs longest) q.longest,
      one_greatest_lem.of_totals ns d.total e.total total q.total,
    )

itself : (table : Table) → SameTask table table
itself table = record { period = refl; deadline = refl; nodes = refl; arcs = record { forth = λ u v j. j; back = λ u v j. j } }

pub same_tasks_ask_the_same_lem : SameTasksAskTheSame
same_tasks_ask_the_same_lem = record {
  same = same_task_same_demand;
  only = λ table d e p q. same_task_same_demand table table d e (itself table) p q;
}

same_in_slot : (a b : Option Table) (d e : Option Demand) → SameSlot a b → SlotDemands a d → SlotDemands b e → SameDemand d e
same_in_slot None None None None s p q = tt
same_in_slot None None None (Some e) s p q = absurd q
same_in_slot None None (Some d) e s p q = absurd p
same_in_slot None (Some b) d e s p q = absurd s
same_in_slot (Some a) None d e s p q = absurd s
same_in_slot (Some a) (Some b) None e s p q = absurd p
same_in_slot (Some a) (Some b) (Some d) None s p q = absurd q
same_in_slot (Some a) (Some b) (Some d) (Some e) s p q = same_task_same_demand a b d e s p q

pub same_tasks_same_bounds_lem : SameTasksSameBounds
same_tasks_same_bounds_lem most also first second p q a b caps cores same of-p of-q =
    same_answer most also p q a b caps
    (record { cores = cores; slots = λ k l. same_in_slot (first k) (second k) (held p k) (held q k) (same k l) (of-p k l) (of-q k l) })
