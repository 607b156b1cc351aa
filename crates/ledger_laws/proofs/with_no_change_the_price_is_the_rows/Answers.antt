use Rattle.ledger_laws.proofs.PriceLaw.{price_stays}
use Rattle.ledger_laws.proofs.with_no_change_the_price_is_the_rows.Goals as goal

pub returns : goal.returns
returns c = price_stays
