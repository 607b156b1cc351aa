use Rattle.deal_runs.proofs.Chaining.{runs_on}
use Rattle.deal_runs.proofs.a_run_goes_on.Goals as goal

pub returns : goal.returns
returns c = runs_on
