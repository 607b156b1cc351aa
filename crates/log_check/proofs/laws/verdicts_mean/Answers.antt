use Rattle.log_check.proofs.Judging.{verdict_means, verdict_yes}
use Rattle.log_check.proofs.laws.verdicts_mean.Goals as goal

pub returns-clause-yes : goal.returns-clause-yes
returns-clause-yes c = verdict_yes

pub returns-clause-means : goal.returns-clause-means
returns-clause-means c = verdict_means
