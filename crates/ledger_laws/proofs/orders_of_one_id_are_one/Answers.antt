use Rattle.ledger_laws.proofs.Laws.{one_of_id}
use Rattle.ledger_laws.proofs.orders_of_one_id_are_one.Goals as goal

pub returns : goal.returns
returns c = one_of_id
