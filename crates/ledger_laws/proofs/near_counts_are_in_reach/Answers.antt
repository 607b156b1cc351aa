use Rattle.ledger_laws.proofs.Quoting.{near_is}
use Rattle.ledger_laws.proofs.near_counts_are_in_reach.Goals as goal

pub returns : goal.returns
returns c = near_is
