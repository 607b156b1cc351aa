use Rattle.run_laws.proofs.Faults.{downs_counted}
use Rattle.run_laws.proofs.each_down_is_one_fault.Goals as goal

pub returns : goal.returns
returns c = downs_counted
