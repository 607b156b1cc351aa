use Rattle.ledger_laws.proofs.Skips.{never_issued}
use Rattle.ledger_laws.proofs.skipped_counts_are_never_issued.Goals as goal

pub returns : goal.returns
returns c = never_issued
