use Rattle.run_laws.proofs.Once.{tokens_once}
use Rattle.run_laws.proofs.tokens_take_effect_once.Goals as goal

pub returns : goal.returns
returns c = tokens_once
