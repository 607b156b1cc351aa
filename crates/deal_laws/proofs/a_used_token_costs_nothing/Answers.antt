use Rattle.deal_laws.proofs.Keeping.{used_tokens}
use Rattle.deal_laws.proofs.a_used_token_costs_nothing.Goals as goal

pub returns : goal.returns
returns c = used_tokens
