use Rattle.std.proofs.Common.{◌≡◌, ◌≤◌, ◌+◌, ◌*◌, ◌++◌}
use Rattle.fleet_spec.specs.Script.{steps_of}
use Rattle.fleet_script.proofs.generating.put_days.Given as goal

abbrev pub invariant-loop-day : goal.invariant-loop-day
invariant-loop-day l = record {
  steps : l.steps.items ≡ l.fn.steps.items ++ steps_of l.fn.words.seed l.devices l.day;
  seed : l.words.seed ≡ l.fn.words.seed;
  drawn : l.words.drawn ≡ l.devices * (l.day + 1);
  few : l.words.drawn ≤ 200 * (l.day + 1);
}
