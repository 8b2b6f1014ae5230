use Rattle.response.proofs.example_runs.Goals as goal
use Rattle.response.proofs.Examples.{flashes_planned, flashes_run}

pub returns : goal.returns
returns c = (flashes_planned, flashes_run)
