use Rattle.ledger_laws.proofs.Skips.{never_sold}
use Rattle.ledger_laws.proofs.skipped_tokens_are_never_sold.Goals as goal

pub returns : goal.returns
returns c = never_sold
