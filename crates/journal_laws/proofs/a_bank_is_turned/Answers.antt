use Rattle.journal_laws.proofs.Laws.{bank_turned, turn_cut}
use Rattle.journal_laws.proofs.a_bank_is_turned.Goals as goal

pub returns : goal.returns
returns c = record { whole = bank_turned; cut = turn_cut }
