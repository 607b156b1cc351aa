-- The texts of the answers to agents. They print and file these lines, so each is exact.
use Rattle.std.specs.Prelude.{ℕ, List, [], ◌∷◌, codes}
use Rattle.paygo_spec.specs.Text.{with_number}
use Rattle.ledger_spec.specs.AnswerText.{number, text, done_text}

-- The report that is kept of a place: one line of JSON, as the ledger's answers are.
abbrev pub sold_text : List ℕ → ℕ → List ℕ → ℕ → List ℕ
sold_text sheet place sale money = done_text (codes "sold")
    (text (codes "sheet") sheet
    ∷ number (codes "place") place
    ∷ text (codes "sale") sale
    ∷ number (codes "money") money
    ∷ [])

-- What all reports come to, as `sales 1 500 1`: how many tokens were sold, for how much money, and how many disputes
-- there are.
abbrev pub sales_text : ℕ → ℕ → ℕ → List ℕ
sales_text tokens money disputes = with_number (with_number (with_number (codes "sales") tokens) money) disputes
