use Rattle.std.proofs.Common.{rules}
use Rattle.plans.proofs.Saying.{node_plain, node_opening, node_closing}
use Rattle.plans.proofs.statement.node_in.Goals as goal

pub returns-in-plain : goal.returns-in-plain
returns-in-plain c =
    node_plain c.args.words.now c.in_ok-time.time c.placed.result (search rules) c.in-plain.is (search rules) c.placed.ensures

pub returns-in-opening : goal.returns-in-opening
returns-in-opening c =
    node_opening c.args.words.now c.in_ok-time.time c.placed-in-opening.result (search rules) c.in-opening.is (search rules)
    c.placed-in-opening.ensures

pub returns-in-closing : goal.returns-in-closing
returns-in-closing c =
    node_closing c.args.words.now c.in_ok-time.time c.closing.result (search rules) c.in-closing.is (search rules) c.closing.ensures
