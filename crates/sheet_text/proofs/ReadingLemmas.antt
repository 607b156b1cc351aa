-- What serde_json answers is the reading of the line.
use Rattle.std.proofs.Common.{◌≡◌, ℕ, List, ap}
use Rattle.std.specs.Prelude.{Some, None, Err}
use Rattle.std.specs.Str.{IsUtf8}
use Rattle.serde_json.specs.Data.{Data}
use Rattle.serde_json.specs.Read.{read}
use Rattle.ledger_spec.specs.declared.TextFault.TheVariants.{Json}
use Rattle.ledger_text.proofs.ReadingLemmas.{reading_of_text, no_reading}
use Rattle.sheet_text.specs.Asks.{ask_at, ask_in}

-- what a line with a value asks for
pub ask_of_value : (line : List ℕ) (value : Data) → IsUtf8 line → read line ≡ Some value
    → ask_in line ≡ ask_at (Some value)
unfolding ask_in
ask_of_value line value utf8 is = ap ask_at (reading_of_text line value utf8 is)

-- a line without a value asks for nothing
pub no_ask : (line : List ℕ) → (IsUtf8 line → read line ≡ None) → ask_in line ≡ Err Json
unfolding ask_in
no_ask line none = ap ask_at (no_reading line none)
