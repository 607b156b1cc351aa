-- What the words ask of the program itself.
use Rattle.std.specs.Prelude.{ℕ, List, [], ◌∷◌, codes, Option, Some, None, if◌then◌else◌}
use Rattle.std.specs.Str.{bytes_eq}
use Rattle.command_words.specs.declared.help.Told.{Told}
use Rattle.command_words.specs.declared.help.Told.TheVariants as told

-- `--help` or `--version` alone.
abbrev pub told_by : List (List ℕ) → Option Told
told_by (word ∷ []) =
    if bytes_eq word (codes "--help") then Some told.Help
    else if bytes_eq word (codes "--version") then Some told.Version
    else None
told_by _ = None
