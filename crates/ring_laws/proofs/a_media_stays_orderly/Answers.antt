use Rattle.ring_laws.proofs.Keeps.{stays_orderly}
use Rattle.ring_laws.proofs.a_media_stays_orderly.Goals as goal

pub returns : goal.returns
returns c = stays_orderly
