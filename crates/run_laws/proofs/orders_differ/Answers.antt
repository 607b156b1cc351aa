use Rattle.run_laws.proofs.Differing.{one_id, one_count, one_token}
use Rattle.run_laws.proofs.orders_differ.Goals as goal

pub returns : goal.returns
returns c = record { ids = one_id; counts = one_count; tokens = one_token }
