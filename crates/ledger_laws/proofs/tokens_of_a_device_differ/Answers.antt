use Rattle.ledger_laws.proofs.Laws.{tokens_differ}
use Rattle.ledger_laws.proofs.tokens_of_a_device_differ.Goals as goal

pub returns : goal.returns
returns c = tokens_differ
