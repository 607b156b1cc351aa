use Rattle.std.proofs.Common.{◌≡◌}
use Rattle.fleet_spec.specs.Script.{enrols_of}
use Rattle.fleet_script.proofs.enrolling.enrols.Given as goal

abbrev pub invariant-loop-device : goal.invariant-loop-device
invariant-loop-device l = record {
  enrols : l.enrols.items ≡ enrols_of l.fn.words.seed l.device;
  seed : l.words.seed ≡ l.fn.words.seed;
  drawn : l.words.drawn ≡ l.device;
}
