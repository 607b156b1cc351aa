use Rattle.run_laws.proofs.Standing.{stays_sound}
use Rattle.run_laws.proofs.tables_stay_sound.Goals as goal

pub returns : goal.returns
returns c = stays_sound
