use Rattle.ledger_laws.proofs.Rising.{paid_is}
use Rattle.ledger_laws.proofs.rows_hold_what_was_paid.Goals as goal

pub returns : goal.returns
returns c = paid_is
