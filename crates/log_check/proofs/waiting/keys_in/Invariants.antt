use Rattle.std.proofs.Common.{◌≡◌, true, take, drop}
use Rattle.run_spec.specs.DeviceLines.{are_key_text, presses}
use Rattle.log_check.specs.Waiting.{AreEvents}
use Rattle.log_check.proofs.waiting.keys_in.Given as goal

abbrev pub invariant-loop-key : goal.invariant-loop-key
invariant-loop-key l = record {
  rest : are_key_text (drop l.key-index l.text) ≡ true;
  pressed : l.events.items ≡ presses (take l.key-index l.text);
  range : AreEvents l.events.items;
}
