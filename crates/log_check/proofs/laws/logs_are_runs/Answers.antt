use Rattle.log_check.proofs.Running.{log_runs}
use Rattle.log_check.proofs.laws.logs_are_runs.Goals as goal

pub returns : goal.returns
returns c = log_runs
