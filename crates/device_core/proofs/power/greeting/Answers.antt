use Rattle.std.proofs.Common.{refl}
use Rattle.paygo_spec.specs.Machine.{Blank, Broken}
use Rattle.device_core.proofs.Stands.{has_history}
use Rattle.device_core.proofs.power.greeting.Goals as goal

pub returns-in-Off-clause-fits : goal.returns-in-Off-clause-fits
returns-in-Off-clause-fits c = rw c.in-Off.is (Blank, tt)

pub returns-in-Unmade-clause-fits : goal.returns-in-Unmade-clause-fits
returns-in-Unmade-clause-fits c = rw c.in-Unmade.is (Blank, tt)

pub returns-in-Damaged-clause-fits : goal.returns-in-Damaged-clause-fits
returns-in-Damaged-clause-fits c = rw c.in-Damaged.is (Broken c.in-Damaged.place, refl)

pub returns-in-Up-clause-fits : goal.returns-in-Up-clause-fits
returns-in-Up-clause-fits c = rw c.in-Up.is (has_history c.in-Up.journal c.summary-summary.ensures.rule)
