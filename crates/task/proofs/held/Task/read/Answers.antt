use Rattle.std.proofs.Common.{List, subst₂}
use Rattle.std.proofs.lemmas.Result.{err_from_is_err_and}
use Rattle.table.specs.declared.records.Arc.{Arc}
use Rattle.table.specs.declared.records.Node.{Node}
use Rattle.task.specs.Rules.{BrokenAt}
use Rattle.task.specs.Shape.{Shaped}
use Rattle.task.proofs.Answering.{encoded_lawful, told_unsound, told_taken, told_misshapen}
use Rattle.task.proofs.held.Task.read.Goals as goal

pub returns-in_err-table : goal.returns-in_err-table
returns-in_err-table c =
    let p = err_from_is_err_and c.from_residual.result c.from_residual.ensures.1 in
    rw (p.1, p.2) (told_unsound c.args.bytes.now c.in_err-table.field-0.0 c.in_err-table.ensures)

pub graph_of-requires : goal.graph_of-requires
graph_of-requires c = encoded_lawful c.args.bytes.now c.in_ok-table.table c.in_ok-table.ensures.right

pub returns-in_err-check_shape : goal.returns-in_err-check_shape
returns-in_err-check_shape c =
    let p = err_from_is_err_and c.from_residual-in_err-check_shape.result c.from_residual-in_err-check_shape.ensures.1 in
    let broken = c.in_err-check_shape.field-0.0 in
    rw (p.1, p.2)
    (told_misshapen c.args.bytes.now c.in_ok-table.table broken c.in_ok-table.ensures
    (subst₂ (λ (ns : List Node) (arcs : List Arc). BrokenAt ns arcs broken.rule broken.at) c.graph_of.ensures.nodes c.graph_of.ensures.arcs
    c.in_err-check_shape.ensures))

pub invariant_of-result : goal.invariant_of-result
invariant_of-result c =
    record {
      lawful = ∣ record {
        in_range = encoded_lawful c.args.bytes.now c.in_ok-table.table c.in_ok-table.ensures.right;
        shaped = subst₂ Shaped c.graph_of.ensures.nodes c.graph_of.ensures.arcs c.in_ok-check_shape.ensures;
      } ∣₁;
    }

pub returns : goal.returns
returns c =
    told_taken c.args.bytes.now c.in_ok-table.table c.in_ok-table.ensures
    (subst₂ Shaped c.graph_of.ensures.nodes c.graph_of.ensures.arcs c.in_ok-check_shape.ensures)
