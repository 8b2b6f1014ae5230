use Rattle.std.proofs.Common.{◌-◌, length, arith}
use Rattle.paths.proofs.Known.{set_upwards, settled_none, settled_next, settled_skip, settled_more, settled_all}
use Rattle.paths.proofs.walk.walk.Goals as goal

pub invariant_of-search : goal.invariant_of-search
invariant_of-search g c = record { upwards = set_upwards _ _ _ c.set_of-after.ensures c.requires.upwards }

pub best_from-requires : goal.best_from-requires
best_from-requires g c =
    record {
      node = omega arith;
      room = omega arith;
      known = settled_next _ _ _ _ _ _ _ c.loop-n.n (c.loop-n.n - 1) (omega arith) _ _ c.loop-n.invariant;
    }

pub loop-n-init : goal.loop-n-init
loop-n-init g c = settled_none _ _ _ _ _ _ _ (length c.args.nodes.now) (omega arith)

pub loop-n-preserved-in-Some : goal.loop-n-preserved-in-Some
loop-n-preserved-in-Some g c =
    settled_more _ _ _ _ _ _ _ c.loop-n.n (c.loop-n.n - 1) (omega arith) _ _ c.loop-n.invariant
    _ _ (omega arith) (omega arith) c.with-found.ensures c.in-Some.ensures

pub loop-n-preserved : goal.loop-n-preserved
loop-n-preserved g c = settled_skip _ _ _ _ _ _ _ c.loop-n.n (c.loop-n.n - 1) (omega arith) _ _ c.loop-n.invariant c.in_default.ensures

pub returns : goal.returns
returns g c =
    settled_all _ _ _ _ _ c.set_of-after.result c.set_of-after.ensures _
    c.args.values.now c.loop-n.values c.loop-n.n c.loop-n.found (omega arith) (omega arith) c.loop-n.invariant
