use Rattle.run_laws.proofs.Differing.{empty_sound}
use Rattle.run_laws.proofs.empty_tables_are_sound.Goals as goal

pub returns : goal.returns
returns c = empty_sound
