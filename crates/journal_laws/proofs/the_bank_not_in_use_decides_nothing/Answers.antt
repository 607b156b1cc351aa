use Rattle.journal_laws.proofs.Laws.{other_left, unmade_left}
use Rattle.journal_laws.proofs.the_bank_not_in_use_decides_nothing.Goals as goal

pub returns : goal.returns
returns c = record { made = other_left; unmade = unmade_left }
