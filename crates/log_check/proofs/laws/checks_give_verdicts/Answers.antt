use Rattle.log_check.proofs.Stepping.{check_judges}
use Rattle.log_check.proofs.laws.checks_give_verdicts.Goals as goal

pub returns : goal.returns
returns c = check_judges
