use Rattle.deal_laws.proofs.Keeping.{none_twice}
use Rattle.deal_laws.proofs.no_token_takes_effect_twice.Goals as goal

pub returns : goal.returns
returns c = none_twice
