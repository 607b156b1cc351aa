-- The orders of a row in a table by their counts.
use Rattle.std.specs.Prelude.{◌≡◌, ℕ, List, Option, None, get_or}
use Rattle.ledger_spec.specs.declared.Order.{Order}
use Rattle.sync_advice.specs.Advice.{order_with}

-- At the place of each count stands the order of that count, and none where no order has it.
abbrev pub AreFirst : List Order → List (Option Order) → Type 0
AreFirst orders firsts = (count : ℕ) → get_or firsts count None ≡ order_with orders count
