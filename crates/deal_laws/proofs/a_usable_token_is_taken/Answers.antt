use Rattle.deal_laws.proofs.Keeping.{usables_taken}
use Rattle.deal_laws.proofs.a_usable_token_is_taken.Goals as goal

pub returns : goal.returns
returns c = usables_taken
