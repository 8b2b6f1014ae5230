use Rattle.std.proofs.Common.{arith}
use Rattle.paths.specs.Unions.{with_alone}
use Rattle.paths.proofs.reach.ReachPathAlgebra.weigh.Goals as goal

pub returns-then-number-lt64 : goal.returns-then-number-lt64
returns-then-number-lt64 c = with_alone c.args.number c.args._node.now c.with.result (omega arith) (omega arith) c.with.ensures
