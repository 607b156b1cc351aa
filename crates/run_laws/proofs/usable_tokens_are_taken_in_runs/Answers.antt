use Rattle.run_laws.proofs.Points.{usables_taken}
use Rattle.run_laws.proofs.usable_tokens_are_taken_in_runs.Goals as goal

pub returns : goal.returns
returns c = usables_taken
