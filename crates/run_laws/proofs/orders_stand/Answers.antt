use Rattle.run_laws.proofs.Standing.{orders_stand}
use Rattle.run_laws.proofs.orders_stand.Goals as goal

pub returns : goal.returns
returns c = orders_stand
