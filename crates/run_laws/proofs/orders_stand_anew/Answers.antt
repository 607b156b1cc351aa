use Rattle.run_laws.proofs.Standing.{stand_anew}
use Rattle.run_laws.proofs.orders_stand_anew.Goals as goal

pub returns : goal.returns
returns c = stand_anew
