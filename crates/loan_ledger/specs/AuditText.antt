-- What is written of an audit: a line for each wrong order, and then one line with the numbers.
use Rattle.std.specs.Prelude.{ℕ, List, [], ◌∷◌, ◌++◌, length, codes}
use Rattle.std.specs.List.{flat_map}
use Rattle.paygo_spec.specs.Text.{with_number}
use Rattle.loan_ledger.specs.Audit.{Findings}

-- The line of a wrong order: `wrong`, and its id.
abbrev pub wrong_line : List ℕ → List ℕ
wrong_line id = (codes "wrong " ++ id) ++ 10 ∷ []

-- The last line: `audited`, and how many rows there are, how many orders, and how many wrong orders.
abbrev pub numbers_line : ℕ → ℕ → ℕ → List ℕ
numbers_line rows orders wrong = with_number (with_number (with_number (codes "audited") rows) orders) wrong ++ 10 ∷ []

-- The text of what an audit found. Each line ends with the byte 10.
unfoldable pub text_of_findings : Findings → List ℕ
text_of_findings findings =
    flat_map wrong_line findings.wrong ++ numbers_line findings.rows findings.orders (length findings.wrong)
