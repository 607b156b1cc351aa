-- Which tokens bring a device up to date: from one count on to the greatest count in reach that has a token, and so on.
use Rattle.std.specs.Prelude.{◌≡◌, ℕ, ◌+◌, ◌<◌, ◌≤◌, min, max, Bool, true, false, ◌&&◌, ◌==◌, nat_lt, nat_le, List, [], ◌∷◌, Option, Some, None, if◌then◌else◌}
use Rattle.ledger_spec.specs.declared.Order.{Order}

-- How far above its last count a device takes a token: 64 counts, and 100 for a sync token, whose value is 999.
abbrev pub step_of : ℕ → ℕ
step_of value = if value == 999 then 100 else 64

-- The order of a count. Of several with one count the first is meant.
abbrev pub order_with : List Order → ℕ → Option Order
order_with [] count = None
order_with (order ∷ orders) count = if order.count == count then Some order else order_with orders count

-- The greatest count of the orders, or 0.
abbrev pub last_count : List Order → ℕ
last_count [] = 0
last_count (order ∷ orders) = max order.count (last_count orders)

-- A device with this last count, and this limit, takes the token of the order, and its last count is greater then.
abbrev pub reaches : ℕ → ℕ → Order → Bool
reaches limit from order = nat_lt from order.count && nat_le order.count (min limit (from + step_of order.value))

abbrev pub reached : ℕ → ℕ → Option Order → Bool
reached limit from None = false
reached limit from (Some order) = reaches limit from order

-- There is an order of this count, and a device with the last count `from` goes on to it.
abbrev pub follows : List Order → ℕ → ℕ → ℕ → Bool
follows orders limit from count = reached limit from (order_with orders count)

-- The order that leads farthest from this count.
pub record IsFar (orders : List Order) (limit from : ℕ) (order : Order) : Type 0 where
  pub listed : order_with orders order.count ≡ Some order
  pub reached_is : reaches limit from order ≡ true
  pub greatest : (count : ℕ) → follows orders limit from count ≡ true → count ≤ order.count

-- No order leads on from this count.
abbrev pub IsEnd : List Order → ℕ → ℕ → Type 0
IsEnd orders limit from = (count : ℕ) → follows orders limit from count ≡ false

-- From one count to another by these orders, each of which leads farthest from the one before.
abbrev pub Climbs : List Order → ℕ → ℕ → List Order → ℕ → Type 0
Climbs orders limit from [] to = from ≡ to
Climbs orders limit from (order ∷ rest) to = IsFar orders limit from order × Climbs orders limit order.count rest to

-- The climb from `floor` stops at this count, below the greatest one.
pub record Stops (orders : List Order) (limit floor count : ℕ) : Type 0 where
  pub list : List Order
  pub climbs : Climbs orders limit floor list count
  pub before : count < last_count orders
  pub end : IsEnd orders limit count
