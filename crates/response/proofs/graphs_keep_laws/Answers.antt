use Rattle.response.proofs.graphs_keep_laws.Goals as goal
use Rattle.response.proofs.Laws.{ends_decided, graphs_keep_laws_lem}

pub returns : goal.returns
returns c = (graphs_keep_laws_lem, ends_decided)
