-- What a line asks for: its steps, by which lines the run takes.
use Rattle.std.specs.Prelude.{ℕ, ◌-◌, Bool, false, ◌==◌, nat_lt, List, [], ◌∷◌, ◌++◌, length, take, drop, codes, unwrap_or, Result, Ok, Err, map, if◌then◌else◌}
use Rattle.std.specs.List.{flat_map}
use Rattle.std.specs.Option.{option_map}
use Rattle.std.specs.Fmt.{decimal}
use Rattle.std.specs.Str.{bytes_eq}
use Rattle.ledger_spec.specs.declared.Command.{Command}
use Rattle.ledger_spec.specs.declared.TextFault.{TextFault}
use Rattle.ledger_spec.specs.Reading.{command_in}
use Rattle.ledger_spec.specs.AnswerText.{text_of_fault}
use Rattle.run_spec.specs.declared.Mode.{Mode}
use Rattle.run_spec.specs.declared.Mode.TheVariants as mode
use Rattle.run_spec.specs.DeviceLines.{events_in}
use Rattle.run_spec.specs.Run.{Step, Say, Do, Act}

-- The line without one byte 13 at its end.
abbrev pub trimmed : List ℕ → List ℕ
trimmed line = if bytes_eq (drop (length line - 1) line) (13 ∷ []) then take (length line - 1) line else line

-- The steps of a line of a device: the events that it asks for, or a refusal where it has no form of such a line.
abbrev pub steps_of_device_line : List ℕ → List Step
steps_of_device_line line =
    unwrap_or (option_map (λ events. map Act events) (events_in line)) (Say (codes "unread") ∷ [])

-- The one step of a line of the ledger: its command, or the text that refuses it.
abbrev pub step_of_reading : Result Command TextFault → Step
step_of_reading (Ok command) = Do command
step_of_reading (Err fault) = Say (text_of_fault fault)

-- The steps of a line of the ledger, and of one of the device, in a run that takes lines of both, or of one of them.
abbrev pub steps_of_ledger : Mode → List ℕ → List Step
steps_of_ledger mode.Device line = Say (codes "no ledger here") ∷ []
steps_of_ledger _ line = step_of_reading (command_in line) ∷ []

abbrev pub steps_of_device : Mode → List ℕ → List Step
steps_of_device mode.Serve line = Say (codes "no device here") ∷ []
steps_of_device _ line = steps_of_device_line line

-- Whether a line's text is one of the ledger: it begins with `{`.
abbrev pub is_ledger_text : List ℕ → Bool
is_ledger_text [] = false
is_ledger_text (c ∷ cs) = c == 123

-- The steps of a line's text: none for an empty one.
abbrev pub steps_of_text : Mode → List ℕ → List Step
steps_of_text mode [] = []
steps_of_text mode (c ∷ cs) = if c == 123 then steps_of_ledger mode (c ∷ cs) else steps_of_device mode (c ∷ cs)

-- The steps of a line: one answer for one above 4,096 bytes, and else those of its text.
abbrev pub steps_of_line : Mode → List ℕ → List Step
steps_of_line mode line =
    if nat_lt 4096 (length line) then Say (codes "long " ++ decimal (length line))
    ∷ [] else steps_of_text mode (trimmed line)

-- The steps of these lines.
abbrev pub steps_of : Mode → List (List ℕ) → List Step
steps_of mode lines = flat_map (steps_of_line mode) lines
