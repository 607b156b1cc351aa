use Rattle.run_laws.proofs.Differing.{order_found, row_found}
use Rattle.run_laws.proofs.look_ups_miss_nothing.Goals as goal

pub returns : goal.returns
returns c = record { orders = order_found; rows = row_found }
