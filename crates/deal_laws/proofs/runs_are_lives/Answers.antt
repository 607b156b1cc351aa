use Rattle.std.proofs.Common.{refl}
use Rattle.run_spec.specs.Run.{beginning}
use Rattle.deal_laws.proofs.Lives.{ended_life, lives_then}
use Rattle.deal_laws.proofs.runs_are_lives.Goals as goal

pub returns : goal.returns
returns c = record {
  one = λ next mode result ended taken steps answers start reached now run ends. ended_life next mode steps answers start reached now run result ended taken ends;
  anew = λ next now faults. (beginning now.tables now.device.stored faults, refl, refl);
  then = lives_then;
}
