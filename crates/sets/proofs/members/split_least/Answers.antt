use Rattle.std.proofs.Common.{arith}
use Rattle.sets.proofs.Bits.{bit_below}
use Rattle.sets.proofs.Counted.{count_drops}
use Rattle.sets.proofs.members.split_least.Goals as goal

pub returns : goal.returns
returns c =
    let least = c.in_ok-least.ensures in
    record {
      least = least;
      rest = c.without.ensures;
      fewer = count_drops c.args.set c.without.result c.in_ok-least.least least.inside c.without.ensures 64 (bit_below 64 c.args.set.bits c.in_ok-least.least (omega arith) least.inside);
    }
