use Rattle.journal_laws.proofs.Laws.{entry_cut}
use Rattle.journal_laws.proofs.a_cut_entry_counts_or_not.Goals as goal

pub returns : goal.returns
returns c = entry_cut
