use Rattle.std.proofs.Common.{◌≡◌, drop}
use Rattle.run_spec.specs.DeviceLines.{are_key_text}
use Rattle.bench_run.proofs.device_lines.are_keys.Given as goal

abbrev pub invariant-loop-c : goal.invariant-loop-c
invariant-loop-c l = are_key_text (drop l.c-index l.text) ≡ are_key_text l.text
