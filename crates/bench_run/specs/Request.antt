-- What a line of a device asks for.
use Rattle.std.specs.Prelude.{◌≡◌, true, List, [], ◌∷◌}
use Rattle.paygo_spec.specs.declared.Event.{Event}
use Rattle.run_spec.specs.DeviceLines.{are_key_text, presses}
use Rattle.paygo_spec.specs.Machine.{IsEvent}
use Rattle.bench_run.specs.declared.device_lines.Request.{Request}
use Rattle.bench_run.specs.declared.device_lines.Request.TheVariants.{One, Keys}

-- The events that it asks for.
abbrev pub events_of : Request → List Event
events_of (One event) = event ∷ []
events_of (Keys text) = presses text.now

-- Each of them may be asked for.
abbrev pub IsRequest : Request → Type 0
IsRequest (One event) = IsEvent event
IsRequest (Keys text) = are_key_text text.now ≡ true
