use Rattle.paygo_spec.proofs.CleanTokens.{effects_once, effects_never, clean_found}
use Rattle.history_laws.proofs.clean_tokens_count_once.Goals as goal

pub returns : goal.returns
returns c = record { once = effects_once; never = effects_never; found = clean_found }
