use Rattle.journal_laws.proofs.Laws.{entry_added}
use Rattle.journal_laws.proofs.an_entry_is_added.Goals as goal

pub returns : goal.returns
returns c = entry_added
