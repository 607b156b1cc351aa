-- What is written of the values that can't be sold in a device's reach.
use Rattle.std.specs.Prelude.{ℕ, List, [], ◌∷◌, ◌++◌, length, codes}
use Rattle.std.specs.List.{flat_map}
use Rattle.paygo_spec.specs.Text.{with_number}
use Rattle.ledger_spec.specs.AnswerText.{kind_name}
use Rattle.ledger_spec.specs.Stuck.{Stuck}

-- A kind and a value in words: `stuck`, the kind, the value, and the least last count with which a device can't be sold
-- them in its reach.
abbrev pub stuck_text : Stuck → List ℕ
stuck_text stuck = with_number (with_number (codes "stuck " ++ kind_name stuck.kind) stuck.value) stuck.last

-- Their line.
abbrev pub stuck_line : Stuck → List ℕ
stuck_line stuck = stuck_text stuck ++ 10 ∷ []

-- The last line: `values`, and how many lines stand before it.
abbrev pub count_line : ℕ → List ℕ
count_line count = with_number (codes "values") count ++ 10 ∷ []

-- The text of such a list. Each line ends with the byte 10.
unfoldable pub text_of_values : List Stuck → List ℕ
text_of_values list = flat_map stuck_line list ++ count_line (length list)
