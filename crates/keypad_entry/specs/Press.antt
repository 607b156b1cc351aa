-- What a press of a key answers.
use Rattle.std.specs.Prelude.{ℕ, ◌==◌, if◌then◌else◌}
use Rattle.paygo_spec.specs.Pad.{Keys, handed_over, held_of}
use Rattle.keypad_entry.specs.declared.Press.{Press}
use Rattle.keypad_entry.specs.declared.Press.TheVariants.{Held, Cleared, Entry}

-- `*` clears the pad, `#` hands over the first fifteen digits with the length, and a digit is held.
abbrev pub press_of : ℕ → Keys → Press
press_of key keys =
    if key == 42 then Cleared
    else if key == 35 then Entry (handed_over keys.pressed) (held_of keys)
    else Held
