use Rattle.run_laws.proofs.Once.{stays_found}
use Rattle.run_laws.proofs.found_histories_stay_found.Goals as goal

pub returns : goal.returns
returns c = stays_found
