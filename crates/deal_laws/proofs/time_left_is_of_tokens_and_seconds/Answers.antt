use Rattle.deal_laws.proofs.Keeping.{time_left}
use Rattle.deal_laws.proofs.time_left_is_of_tokens_and_seconds.Goals as goal

pub returns : goal.returns
returns c = time_left
