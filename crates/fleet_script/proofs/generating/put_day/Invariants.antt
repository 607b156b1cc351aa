use Rattle.std.proofs.Common.{◌≡◌, ◌+◌, ◌++◌}
use Rattle.fleet_script.proofs.Growing.{steps_of_first}
use Rattle.fleet_script.proofs.generating.put_day.Given as goal

abbrev pub invariant-loop-device : goal.invariant-loop-device
invariant-loop-device l = record {
  steps : l.steps.items ≡ l.fn.steps.items ++ steps_of_first l.fn.words.seed l.devices l.day l.device;
  seed : l.words.seed ≡ l.fn.words.seed;
  drawn : l.words.drawn ≡ l.fn.words.drawn + l.device;
}
