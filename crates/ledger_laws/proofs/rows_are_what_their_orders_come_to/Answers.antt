use Rattle.ledger_laws.proofs.Rising.{rows_come_to}
use Rattle.ledger_laws.proofs.rows_are_what_their_orders_come_to.Goals as goal

pub returns : goal.returns
returns c = rows_come_to
