use Rattle.ledger_laws.proofs.PriceLaw.{price_is}
use Rattle.ledger_laws.proofs.the_last_change_is_the_price.Goals as goal

pub returns : goal.returns
returns c = price_is
