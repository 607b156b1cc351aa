-- What a quote says of the payment that follows it.
use Rattle.std.specs.Prelude.{◌≡◌, List, ℕ, Some}
use Rattle.paygo_spec.specs.declared.Form.{Form}
use Rattle.ledger_spec.specs.declared.Row.{Row}
use Rattle.ledger_spec.specs.declared.Order.{Order}
use Rattle.ledger_spec.specs.declared.Answer.{Answer}
use Rattle.ledger_spec.specs.declared.Answer.TheVariants as answer_is
use Rattle.ledger_spec.specs.Tables.{Tables, row_of}
use Rattle.ledger_spec.specs.Ledger.{Done, stays}

-- A payment for a device was quoted in these tables, and this was done with it under a new id: it was answered by an order
-- with the quoted kind, count and value, and the device's row has the quoted rest. Where no payment was quoted but a refusal,
-- the payment is refused by it, and the tables stay.
abbrev pub Foretells : Tables → List ℕ → Answer → Done → Type 0
Foretells tables serial (answer_is.Quote quote) done =
    (order : Order) × (form : Form) × (row : Row) × (done.answer ≡ answer_is.Order order form)
    × (order.serial ≡ quote.serial) × (order.kind ≡ quote.kind) × (order.count ≡ quote.count) × (order.value ≡ quote.value)
    × (row_of done.tables serial ≡ Some row) × (row.rest ≡ quote.rest)
Foretells tables serial refusal done = done ≡ stays tables refusal
