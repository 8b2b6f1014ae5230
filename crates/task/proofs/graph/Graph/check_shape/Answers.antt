use Rattle.std.proofs.lemmas.Result.{err_from_is_err_and}
use Rattle.task.specs.declared.rules.Rule.TheVariants.{HomesAreOpenings, MatesPairUp, BranchesCountUp, ArcsAreLawful, OneFirstOneLast, BlocksAreWired}
use Rattle.task.proofs.Sequence.{kept, broken_first, none_below, after_homes, after_mates, after_branches, after_arcs, after_ends}
use Rattle.task.proofs.graph.Graph.check_shape.Goals as goal

pub returns-in_err-kept : goal.returns-in_err-kept
returns-in_err-kept c =
    let ns = c.args.self.now.nodes.now in
    let arcs = c.args.self.now.arcs.now in
    let p = err_from_is_err_and c.from_residual.result c.from_residual.ensures.1 in
    rw (p.1, p.2) (broken_first ns arcs HomesAreOpenings c.homes_are_openings.result c.in_err-kept.field-0.0 c.homes_are_openings.ensures c.in_err-kept.ensures (none_below ns arcs))

pub returns-in_err-kept-2 : goal.returns-in_err-kept-2
returns-in_err-kept-2 c =
    let ns = c.args.self.now.nodes.now in
    let arcs = c.args.self.now.arcs.now in
    let homes = kept ns arcs HomesAreOpenings c.homes_are_openings.result c.homes_are_openings.ensures c.in_ok-kept.ensures in
    let p = err_from_is_err_and c.from_residual-in_err-kept-2.result c.from_residual-in_err-kept-2.ensures.1 in
    rw (p.1, p.2) (broken_first ns arcs MatesPairUp c.mates_pair_up.result c.in_err-kept-2.field-0.0 c.mates_pair_up.ensures c.in_err-kept-2.ensures (after_homes ns arcs homes))

pub returns-in_err-kept-3 : goal.returns-in_err-kept-3
returns-in_err-kept-3 c =
    let ns = c.args.self.now.nodes.now in
    let arcs = c.args.self.now.arcs.now in
    let homes = kept ns arcs HomesAreOpenings c.homes_are_openings.result c.homes_are_openings.ensures c.in_ok-kept.ensures in
    let mates = kept ns arcs MatesPairUp c.mates_pair_up.result c.mates_pair_up.ensures c.in_ok-kept-2.ensures in
    let p = err_from_is_err_and c.from_residual-in_err-kept-3.result c.from_residual-in_err-kept-3.ensures.1 in
    rw (p.1, p.2) (broken_first ns arcs BranchesCountUp c.branches_count_up.result c.in_err-kept-3.field-0.0 c.branches_count_up.ensures c.in_err-kept-3.ensures (after_mates ns arcs homes mates))

pub returns-in_err-kept-4 : goal.returns-in_err-kept-4
returns-in_err-kept-4 c =
    let ns = c.args.self.now.nodes.now in
    let arcs = c.args.self.now.arcs.now in
    let homes = kept ns arcs HomesAreOpenings c.homes_are_openings.result c.homes_are_openings.ensures c.in_ok-kept.ensures in
    let mates = kept ns arcs MatesPairUp c.mates_pair_up.result c.mates_pair_up.ensures c.in_ok-kept-2.ensures in
    let branches = kept ns arcs BranchesCountUp c.branches_count_up.result c.branches_count_up.ensures c.in_ok-kept-3.ensures in
    let p = err_from_is_err_and c.from_residual-in_err-kept-4.result c.from_residual-in_err-kept-4.ensures.1 in
    rw (p.1, p.2) (broken_first ns arcs ArcsAreLawful c.arcs_are_lawful.result c.in_err-kept-4.field-0.0 c.arcs_are_lawful.ensures c.in_err-kept-4.ensures (after_branches ns arcs homes mates branches))

pub returns-in_err-kept-5 : goal.returns-in_err-kept-5
returns-in_err-kept-5 c =
    let ns = c.args.self.now.nodes.now in
    let arcs = c.args.self.now.arcs.now in
    let homes = kept ns arcs HomesAreOpenings c.homes_are_openings.result c.homes_are_openings.ensures c.in_ok-kept.ensures in
    let mates = kept ns arcs MatesPairUp c.mates_pair_up.result c.mates_pair_up.ensures c.in_ok-kept-2.ensures in
    let branches = kept ns arcs BranchesCountUp c.branches_count_up.result c.branches_count_up.ensures c.in_ok-kept-3.ensures in
    let lawful = kept ns arcs ArcsAreLawful c.arcs_are_lawful.result c.arcs_are_lawful.ensures c.in_ok-kept-4.ensures in
    let p = err_from_is_err_and c.from_residual-in_err-kept-5.result c.from_residual-in_err-kept-5.ensures.1 in
    rw (p.1, p.2) (broken_first ns arcs OneFirstOneLast c.one_first_one_last.result c.in_err-kept-5.field-0.0 c.one_first_one_last.ensures c.in_err-kept-5.ensures (after_arcs ns arcs homes mates branches lawful))

pub returns-in_err-kept-6 : goal.returns-in_err-kept-6
returns-in_err-kept-6 c =
    let ns = c.args.self.now.nodes.now in
    let arcs = c.args.self.now.arcs.now in
    let homes = kept ns arcs HomesAreOpenings c.homes_are_openings.result c.homes_are_openings.ensures c.in_ok-kept.ensures in
    let mates = kept ns arcs MatesPairUp c.mates_pair_up.result c.mates_pair_up.ensures c.in_ok-kept-2.ensures in
    let branches = kept ns arcs BranchesCountUp c.branches_count_up.result c.branches_count_up.ensures c.in_ok-kept-3.ensures in
    let lawful = kept ns arcs ArcsAreLawful c.arcs_are_lawful.result c.arcs_are_lawful.ensures c.in_ok-kept-4.ensures in
    let ends = kept ns arcs OneFirstOneLast c.one_first_one_last.result c.one_first_one_last.ensures c.in_ok-kept-5.ensures in
    let p = err_from_is_err_and c.from_residual-in_err-kept-6.result c.from_residual-in_err-kept-6.ensures.1 in
    rw (p.1, p.2) (broken_first ns arcs BlocksAreWired c.blocks_are_wired.result c.in_err-kept-6.field-0.0 c.blocks_are_wired.ensures c.in_err-kept-6.ensures (after_ends ns arcs homes mates branches lawful ends))

pub blocks_are_wired-requires-clause-paired : goal.blocks_are_wired-requires-clause-paired
blocks_are_wired-requires-clause-paired c =
    let ns = c.args.self.now.nodes.now in
    let arcs = c.args.self.now.arcs.now in (
      kept ns arcs HomesAreOpenings c.homes_are_openings.result c.homes_are_openings.ensures c.in_ok-kept.ensures,
      kept ns arcs MatesPairUp c.mates_pair_up.result c.mates_pair_up.ensures c.in_ok-kept-2.ensures,
    )

pub returns : goal.returns
returns c =
    let ns = c.args.self.now.nodes.now in
    let arcs = c.args.self.now.arcs.now in
    record {
      homes_are_openings = kept ns arcs HomesAreOpenings c.homes_are_openings.result c.homes_are_openings.ensures c.in_ok-kept.ensures;
      mates_pair_up = kept ns arcs MatesPairUp c.mates_pair_up.result c.mates_pair_up.ensures c.in_ok-kept-2.ensures;
      branches_count_up = kept ns arcs BranchesCountUp c.branches_count_up.result c.branches_count_up.ensures c.in_ok-kept-3.ensures;
      arcs_are_lawful = kept ns arcs ArcsAreLawful c.arcs_are_lawful.result c.arcs_are_lawful.ensures c.in_ok-kept-4.ensures;
      one_first_one_last = kept ns arcs OneFirstOneLast c.one_first_one_last.result c.one_first_one_last.ensures c.in_ok-kept-5.ensures;
      blocks_are_wired = kept ns arcs BlocksAreWired c.blocks_are_wired.result c.blocks_are_wired.ensures c.in_ok-kept-6.ensures;
    }
