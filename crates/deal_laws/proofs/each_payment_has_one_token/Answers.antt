use Rattle.deal_laws.proofs.Keeping.{one_token}
use Rattle.deal_laws.proofs.each_payment_has_one_token.Goals as goal

pub returns : goal.returns
returns c = one_token
