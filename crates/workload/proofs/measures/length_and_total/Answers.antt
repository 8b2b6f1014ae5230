use Rattle.std.proofs.Common.{List, sym, subst, subst₂}
use Rattle.table.specs.declared.records.Node.{Node}
use Rattle.task.specs.Held.{nodes_of, arcs_of}
use Rattle.workload.specs.Measures.{IsLongestPath, IsGreatestTotal}
use Rattle.workload.specs.Nested.{Nested}
use Rattle.workload.proofs.Paths.{longest_path_is_length_lem}
use Rattle.workload.proofs.Tasks.{task_ranged, task_nested}
use Rattle.workload.proofs.measures.length_and_total.Goals as goal

pub worst_of-requires : goal.worst_of-requires
worst_of-requires c =
    subst Nested (sym c.graph-graph.ensures.nodes) (task_nested c.args.task.now.table c.graph-graph.ensures.lawful)

pub returns : goal.returns
returns c =
    let table = c.args.task.now.table in
    let graph = c.graph-graph.ensures in
    let l = c.longest.result in
    record {
      length = longest_path_is_length_lem (nodes_of table) (arcs_of table) l (task_ranged table graph.lawful) graph.lawful.shaped
          (subst₂ (λ ns arcs. IsLongestPath ns arcs l) graph.nodes graph.arcs c.longest.ensures);
      total = subst (λ (ns : List Node). IsGreatestTotal ns c.worst_of.result.total) graph.nodes c.worst_of.ensures.greatest;
    }
