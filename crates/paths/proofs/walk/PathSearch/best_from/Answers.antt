use Rattle.std.proofs.Common.{sym, ap, ◌∙◌, subst, arith}
use Rattle.sets.specs.declared.bit_set.BitSet.{BitSet}
use Rattle.sets.specs.Sets.{Has}
use Rattle.paths.proofs.Sought.{sought_none, sought_found, sought_goal, sought_no_goal}
use Rattle.paths.proofs.walk.PathSearch.best_from.Goals as goal

pub loop-v-init : goal.loop-v-init
loop-v-init g c = (
  tt,
  tt,
  sought_none (g.met.P.PathAlgebra.lawful c.args.self.now.algebra.now) _ _ _ _ _ c.args.self.now.upwards _ _ c.requires.known c.row.result _ _
      (λ v h. subst (λ (s : BitSet). Has s v) c.row.ensures h) (λ v h. subst (λ (s : BitSet). Has s v) (sym c.row.ensures) h)
      c.common-v-items.ensures c.into_iter-v-iterator.ensures.into_iter_gives,
)

pub offset_bounds-values-v : goal.offset_bounds-values-v
offset_bounds-values-v g c = omega (arith, c.requires.room, c.requires.known.only_nodes c.in-Some.v (c.loop-v.invariant.2.reached c.in-Some.v c.in-Some.ensures.steps.least.inside))

pub bounds-values-v : goal.bounds-values-v
bounds-values-v g c = omega (arith, c.requires.room, c.requires.known.only_nodes c.in-Some.v (c.loop-v.invariant.2.reached c.in-Some.v c.in-Some.ensures.steps.least.inside))

pub loop-v-preserved : goal.loop-v-preserved
loop-v-preserved g c = (
  tt,
  tt,
  sought_found (g.met.P.PathAlgebra.lawful c.args.self.now.algebra.now) _ _ _ _ _ c.args.self.now.upwards c.requires.node _ _ c.requires.known _ _ _ _
      c.in-Some.ensures.steps.least.inside c.in-Some.ensures.steps.rest c.loop-v.invariant.2 c.index-values-v.result c.extend.result c.joined.result c.index-values-v.is
      (c.extend.ensures ∙ ap (λ (w : g.row.P-Value.Denot). g.P.PathAlgebra.extension c.args.self.now.algebra.now w c.index-values-v.result) c.weigh-weight.ensures) c.joined.ensures,
)

pub returns-then-has : goal.returns-then-has
returns-then-has g c =
    sought_goal (g.met.P.PathAlgebra.lawful c.args.self.now.algebra.now) (g.P.PathAlgebra.weight c.args.self.now.algebra.now) _ _ _ _ _ _ _
    c.in-None.ensures.steps.0 c.loop-v.invariant.2
    c.weigh-weight.result c.joined-then-has.result c.requires.node c.if-has.ensures c.weigh-weight.ensures c.joined-then-has.ensures

pub returns-else-has : goal.returns-else-has
returns-else-has g c =
    sought_no_goal (g.met.P.PathAlgebra.lawful c.args.self.now.algebra.now) (g.P.PathAlgebra.weight c.args.self.now.algebra.now) _ _ _ _ _ _ _
    c.in-None.ensures.steps.0 c.loop-v.invariant.2 c.if-has.ensures
