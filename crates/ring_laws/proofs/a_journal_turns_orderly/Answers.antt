use Rattle.ring_laws.proofs.Turning.{turn_may}
use Rattle.ring_laws.proofs.a_journal_turns_orderly.Goals as goal

pub returns : goal.returns
returns c = turn_may
