use Rattle.std.proofs.Common.{ℕ, ◌<◌, [], ◌∷◌, length, sym, refl, ap, ◌∙◌, subst, inl, inr, arith}
use Rattle.std.proofs.lemmas.Result.{err_from_is_err_and}
use Rattle.task.specs.Held.{nodes_of}
use Rattle.task.specs.Retimed.{retimed}
use Rattle.controller.specs.Checks.{PastNodes, slot_held, node_exists, time_in_range}
use Rattle.controller.proofs.Editing.{not_a_time}
use Rattle.controller.proofs.tables.Tables.retime.Goals as goal

pub returns-in_err-slot : goal.returns-in_err-slot
returns-in_err-slot c =
    let p = err_from_is_err_and c.from_residual.result c.from_residual.ensures.1 in
    rw (p.1, p.2) (λ o. record {
      away = c.in_err-slot.ensures o (slot_held c.args.slot ∷ node_exists c.args.slot c.args.node ∷ time_in_range c.args.time ∷ []);
      unchanged = refl;
    })

pub returns-in_err-before : goal.returns-in_err-before
returns-in_err-before c =
    let e = c.in_ok-slot.ensures in
    let p = err_from_is_err_and c.from_residual-in_err-before.result c.from_residual-in_err-before.ensures.1 in
    rw (p.1, p.2, ← e.0) (λ o. record {
      away = inr (c.in_ok-slot.slot.in_range, inr (e.1, inr (e.2, inl (c.in_err-before.ensures o))));
      unchanged = refl;
    })

pub returns-then-node-nodes : goal.returns-then-node-nodes
returns-then-node-nodes c =
    let e = c.in_ok-slot.ensures in
    let past : PastNodes c.args.self.now c.in_ok-slot.slot.number c.args.node = record {
      task = c.in_ok-before.field-0.now;
      held = c.in_ok-before.ensures.1;
      past = omega (arith, c.if-node-nodes.true, c.from-node.ensures, ap length c.nodes.ensures.value);
    } in
    λ o. rw (← e.0) (record {
      away = inr (c.in_ok-slot.slot.in_range, inr (e.1, inr (e.2, inr (c.in_ok-before.ensures.0 o, inl (past, refl)))));
      unchanged = refl;
    })

pub returns-in_default : goal.returns-in_default
returns-in_default c =
    let e = c.in_ok-slot.ensures in
    let there : c.args.node < length (nodes_of c.in_ok-before.field-0.now.table) =
    omega (arith, c.if-node-nodes.false, c.from-node.ensures, ap length c.nodes.ensures.value) in
    let bad = not_a_time c.args.time (λ some short. c.in_default.ensures (record { is_node = subst (λ (v : ℕ). v < length (nodes_of c.in_ok-before.field-0.now.table)) (sym c.from-node.ensures) there; some_time = some; short_time = short })) in
    λ o. rw (← e.0) (record {
      away = inr (
        c.in_ok-slot.slot.in_range,
        inr (
          e.1,
          inr (
            e.2,
            inr (c.in_ok-before.ensures.0 o, inr ((c.in_ok-before.field-0.now, c.in_ok-before.ensures.1, there), inl (bad, refl))),
          ),
        ),
      );
      unchanged = refl;
    })

pub returns : goal.returns
returns c =
    let e = c.in_ok-slot.ensures in
    let before = c.in_ok-before.field-0.now in
    let r = c.in-Some.ensures in
    let there : c.args.node < length (nodes_of before.table) =
    omega (arith, c.if-node-nodes.false, c.from-node.ensures, ap length c.nodes.ensures.value) in
    λ o. rw (← e.0) (
      (
        c.in_ok-slot.slot.in_range,
        (e.1, (e.2, (c.in_ok-before.ensures.0 o, ((before, c.in_ok-before.ensures.1, there), ((r.0.some_time, r.0.short_time), tt))))),
      ),
      record {
        before = before;
        held = c.in_ok-before.ensures.1;
        task = c.in-Some.task;
        one_time = r.1 ∙ ap (λ (v : ℕ). retimed before.table v c.args.time) c.from-node.ensures;
        put = c.put.ensures.put;
        same_waited = c.put.ensures.waits;
      },
    )
