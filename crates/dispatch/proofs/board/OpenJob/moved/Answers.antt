use Rattle.std.proofs.Common.{◌≡◌, ◌+◌, List, length, sym, ap, ◌∙◌, subst, subst₂, arith}
use Rattle.jobs.specs.declared.node_state.NodeState.{NodeState}
use Rattle.jobs.specs.Job.{Outcome, state, next}
use Rattle.sets.specs.declared.bit_set.BitSet.{BitSet}
use Rattle.dispatch.specs.Closing.{Right}
use Rattle.dispatch.specs.Tables.{task_nodes}
use Rattle.dispatch.specs.declared.job.Job.{Job}
use Rattle.dispatch.specs.Moves.{Runs}
use Rattle.dispatch.proofs.Outcomes.{runs_none, runs_skip, runs_more}
use Rattle.dispatch.proofs.board.OpenJob.moved.Goals as goal
use Rattle.dispatch.proofs.board.OpenJob.moved.Goals.{in-Some+in-Some-state_after, in-Some+in_default-state_after, in_default}

pub loop-core-init : goal.loop-core-init
loop-core-init c = record {
  runs = subst₂ (λ (x : List NodeState) (y : BitSet). Runs c.args.spots.now c.args.outcomes.now 0 c.args.slot c.args.self.now.job.now.states x y)
      (sym c.aged-later.ensures.states) (sym c.aged-later.ensures.placed) (runs_none c.args.spots.now c.args.outcomes.now c.args.slot c.args.self.now.job.now.states);
  age = c.aged-later.ensures.age;
}

pub loop-core-preserved : goal.loop-core-preserved
loop-core-preserved c =
    let spots = c.args.spots.now in
    let outcomes = c.args.outcomes.now in
    let s = c.args.slot in
    let old = c.args.self.now.job.now.states in
    let k = c.loop-core.core in
    let was = c.loop-core.later in
    let runs = c.loop-core.invariant.runs in
    let size : length old ≡ 64 = ap length (sym c.aged-later.ensures.states) ∙ c.aged-later.ensures.sized in
    elim c.match-node_in.branch [
      | in-Some+in-Some-state_after w ↦
          let brings = w.in-Some-state_after.ensures.moves in
          record {
            runs = subst (λ (j : Job). Runs spots outcomes (k + 1) s old j.states j.placed) (sym w.later-is)
                (runs_more spots outcomes s old k was.states was.placed runs w.in-Some.node w.in-Some-state_after.state w.with-later.result
                (omega (arith, brings.right.is_node, w.state_after.ensures.few)) (sym c.spot_on.ensures ∙ w.in-Some.ensures)
                (brings.moved ∙ ap (λ (o : Outcome). next o (state old w.in-Some.node)) w.from.ensures) w.with-later.ensures);
            age = ap (λ (j : Job). j.age) w.later-is ∙ c.loop-core.invariant.age;
          }
      | in-Some+in_default-state_after w ↦
          absurd (w.in_default-state_after.ensures.moves
          (subst (λ (o : Outcome). Right (task_nodes c.args.self.now.task.now) old w.in-Some.node o) (sym w.from.ensures)
          (c.requires k w.in-Some.node c.loop-core-test.true (sym c.spot_on.ensures ∙ w.in-Some.ensures))))
      | in_default w ↦
          record {
            runs = subst (λ (j : Job). Runs spots outcomes (k + 1) s old j.states j.placed) (sym w.later-is)
                (runs_skip spots outcomes s old k was.states was.placed runs (λ n e. w.in_default.ensures n (c.spot_on.ensures ∙ e)));
            age = ap (λ (j : Job). j.age) w.later-is ∙ c.loop-core.invariant.age;
          }
    ]
