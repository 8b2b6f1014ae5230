use Rattle.std.proofs.Common.{sym, arith}
use Rattle.bounds.proofs.rise.Rise.next_bound.Goals as goal

pub returns-then-side-from : goal.returns-then-side-from
returns-then-side-from c = (c.in-Some.d, sym c.in-Some.ensures, omega (arith, c.right_side-side.ensures, c.from.ensures, c.if-side-from.true), c.index.ensures.value)

pub returns : goal.returns
returns c = (
  c.in-Some.d,
  sym c.in-Some.ensures,
  c.right_side-side.ensures,
  omega (arith, c.from.ensures, c.if-side-from.false),
  omega arith,
)
