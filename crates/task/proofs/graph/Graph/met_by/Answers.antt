use Rattle.std.proofs.Common.{ℕ, ◌+◌, ◌<◌, sym, ◌∙◌, subst, arith}
use Rattle.sets.specs.declared.bit_set.BitSet.{BitSet}
use Rattle.sets.specs.Sets.{Marks}
use Rattle.sets.proofs.Marked.{SomeBelow, gather_skip, gather_more}
use Rattle.task.proofs.Kinded.{EndsAt, met_marked, end_small}
use Rattle.task.proofs.graph.Graph.met_by.Goals as goal
use Rattle.task.proofs.graph.Graph.met_by.Goals.{then-is_of_kind, else-is_of_kind}

pub with-met-requires : goal.with-met-requires
with-met-requires c =
    subst (λ (x : ℕ). x < 64) (sym c.of.ensures)
    (end_small c.args.self.now.nodes.now c.args.self.now.arcs.now c.args.self.now.ranged c.args.end c.loop-arc.arc-index c.loop-arc-test.true)

pub loop-arc-preserved : goal.loop-arc-preserved
loop-arc-preserved c =
    let ns = c.args.self.now.nodes.now in
    let arcs = c.args.self.now.arcs.now in
    let Q = EndsAt ns arcs c.args.kind c.args.end in
    let k = c.loop-arc.arc-index in
    let old = c.loop-arc.met in
    elim c.if-is_of_kind.branch [
      | then-is_of_kind w ↦
          subst (λ (s : BitSet). Marks (SomeBelow Q (k + 1)) s) (sym w.met-is)
          (gather_more Q k w.of.result old w.with-met.result c.loop-arc.invariant w.with-met.ensures (w.of.ensures, w.if-is_of_kind.ensures)
          (λ n q. q.0 ∙ sym w.of.ensures))
      | else-is_of_kind w ↦
          subst (λ (s : BitSet). Marks (SomeBelow Q (k + 1)) s) (sym w.met-is)
          (gather_skip Q k old c.loop-arc.invariant (λ n q. w.if-is_of_kind.ensures q.1))
    ]

pub returns : goal.returns
returns c = met_marked c.args.self.now.nodes.now c.args.self.now.arcs.now c.args.kind c.loop-arc.arc-index c.args.end c.loop-arc.met (omega arith) c.loop-arc.invariant
