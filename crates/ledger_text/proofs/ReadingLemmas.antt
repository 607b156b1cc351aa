-- What serde_json answers is the reading of the line.
use Rattle.std.proofs.Common.{◌≡◌, ℕ, List, Bool, true, false, refl, ap, ◌∙◌}
use Rattle.std.specs.Prelude.{Some, None, Err, if◌then◌else◌}
use Rattle.std.specs.Str.{IsUtf8, is_utf8}
use Rattle.std.proofs.lemmas.Str.{is_utf8-from_IsUtf8, IsUtf8-from_is_utf8}
use Rattle.serde_json.specs.Data.{Data}
use Rattle.serde_json.specs.Read.{read}
use Rattle.ledger_spec.specs.declared.TextFault.TheVariants.{Json}
use Rattle.ledger_spec.specs.Reading.{reading, command_at, command_in}

-- a line of UTF-8 has the reading of its text
pub reading_of_text : (line : List ℕ) (value : Data) → IsUtf8 line → read line ≡ Some value → reading line ≡ Some value
reading_of_text line value utf8 is = ap (λ (b : Bool). if b then read line else None) (is_utf8-from_IsUtf8 line utf8) ∙ is

-- a line has no reading where its text has none, whenever it is UTF-8
pub no_reading : (line : List ℕ) → (IsUtf8 line → read line ≡ None) → reading line ≡ None
no_reading line none = (elim (is_utf8 line) as (λ b. is_utf8 line ≡ b → (if b then read line else None) ≡ None) [
  | true ↦ λ is. none (IsUtf8-from_is_utf8 line is)
  | false ↦ λ is. refl
]) refl

-- the command of a line with a value
pub command_of_value : (line : List ℕ) (value : Data) → IsUtf8 line → read line ≡ Some value → command_in line ≡ command_at (Some value)
unfolding command_in
command_of_value line value utf8 is = ap command_at (reading_of_text line value utf8 is)

-- a line without a value has no command
pub no_command : (line : List ℕ) → (IsUtf8 line → read line ≡ None) → command_in line ≡ Err Json
unfolding command_in
no_command line none = ap command_at (no_reading line none)
