use Rattle.std.proofs.Common.{◌≡◌, List, MatchOption, subst}
use Rattle.jobs.specs.Job.{next}
use Rattle.table.specs.declared.records.Node.{Node}
use Rattle.table.specs.Whole.{no_node}
use Rattle.workload.proofs.Tasks.{task_ranged}
use Rattle.dispatch.specs.Moves.{said, Fits, MovesTo}
use Rattle.dispatch.proofs.Closes.{closes}
use Rattle.dispatch.proofs.board.OpenJob.state_after.Goals as goal

pub returns : goal.returns
returns c =
    let states = c.args.self.now.job.now.states in
    let v = c.args.v in
    let o = said c.args.outcome in
    let r = c.next_state.result in
    let s = c.state_of.result in
    let branches = c.branches_at.result in
    let there = c.in_ok-node.ensures.lookup.3 in
    record {
      few = (task_ranged c.args.self.now.task.now.table c.nodes-nodes.ensures.lawful).few_nodes;
      moves = subst (λ (ns : List Node). MovesTo ns states v o r) c.nodes-nodes.ensures.value
          (closes c.nodes-nodes.result.now states v branches there.0 c.branches_at.ensures o s r c.state_of.ensures
          (subst (λ (n : Node). MatchOption r (Fits n.role n.time branches s o → ⊥) (λ t. Fits n.role n.time branches s o × (t ≡ next o s)))
          (there.1 no_node) c.next_state.ensures));
    }
