use Rattle.ledger_laws.proofs.Laws.{order_stays_kept}
use Rattle.ledger_laws.proofs.orders_stay_with_their_devices.Goals as goal

pub returns : goal.returns
returns c = order_stays_kept
