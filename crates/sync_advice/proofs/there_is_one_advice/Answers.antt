use Rattle.sync_advice.proofs.Only.{one_advice}
use Rattle.sync_advice.proofs.there_is_one_advice.Goals as goal

pub returns : goal.returns
returns c = one_advice
