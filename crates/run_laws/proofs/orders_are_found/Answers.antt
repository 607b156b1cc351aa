use Rattle.run_laws.proofs.Once.{only_match, order_found}
use Rattle.run_laws.proofs.orders_are_found.Goals as goal

pub returns : goal.returns
returns c = record { only = only_match; found = order_found }
