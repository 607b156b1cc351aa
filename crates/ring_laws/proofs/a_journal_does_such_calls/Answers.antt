use Rattle.ring_laws.proofs.Journals.{turn_of_made, entry_of_made, make_of_unmade}
use Rattle.ring_laws.proofs.a_journal_does_such_calls.Goals as goal

pub returns : goal.returns
returns c = record { turns = turn_of_made; enters = entry_of_made; makes = make_of_unmade }
