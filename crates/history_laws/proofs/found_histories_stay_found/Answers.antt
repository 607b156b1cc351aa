use Rattle.paygo_spec.proofs.StayingFound.{acted}
use Rattle.history_laws.proofs.found_histories_stay_found.Goals as goal

pub returns : goal.returns
returns c = acted
