-- What a skip of counts keeps from being sold.
use Rattle.std.specs.Prelude.{◌≡◌, ℕ, ◌<◌, ◌⊎◌, List, Some}
use Rattle.ledger_spec.specs.declared.Order.{Order}
use Rattle.ledger_spec.specs.Tables.{Tables, order_of}

-- Each order of a device that the later tables have was in the older ones, or its count is above this one.
abbrev pub OnlyAbove : ℕ → List ℕ → Tables → Tables → Type 0
OnlyAbove to serial old later =
    (id : List ℕ) (order : Order) → order_of later id ≡ Some order → order.serial ≡ serial
    → (order_of old id ≡ Some order) ⊎ (to < order.count)
