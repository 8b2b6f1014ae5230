use Rattle.task.proofs.graph.Graph.is_exit.Goals as goal

pub returns-in-None : goal.returns-in-None
returns-in-None c = λ e. c.in-None.ensures e.home e.inside
