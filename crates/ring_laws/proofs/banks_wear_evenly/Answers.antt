use Rattle.ring_laws.proofs.Wear.{wears_evenly}
use Rattle.ring_laws.proofs.banks_wear_evenly.Goals as goal

pub returns : goal.returns
returns c = wears_evenly
