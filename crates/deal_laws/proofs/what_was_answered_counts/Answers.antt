use Rattle.deal_laws.proofs.Keeping.{answered}
use Rattle.deal_laws.proofs.what_was_answered_counts.Goals as goal

pub returns : goal.returns
returns c = answered
