-- The tables of the shop: a row for each device that it sold, an order for each token that it issued, and each change of
-- a device's price.
use Rattle.std.specs.Prelude.{◌≡◌, ℕ, ◌*◌, ◌^◌, ◌<◌, ◌≤◌, Bool, true, ◌||◌, ◌==◌, nat_lt, List, [], ◌∷◌, length, map, filter, find, if◌then◌else◌, Option, None, Some, IsSome}
use Rattle.std.specs.Option.{option_map}
use Rattle.paygo_spec.specs.declared.Form.{Form}
use Rattle.paygo_spec.specs.declared.TheConstants.{GREAT, LAST}
use Rattle.paygo_spec.specs.Clock.{divides_day}
use Rattle.ledger_spec.specs.declared.Row.{Row}
use Rattle.ledger_spec.specs.declared.PriceChange.{PriceChange}
use Rattle.ledger_spec.specs.declared.Order.{Order}
use Rattle.ledger_spec.specs.declared.Ask.{Ask}
use Rattle.ledger_spec.specs.declared.Ask.TheVariants.{Pay, Set, Disable, Sync}
use Rattle.ledger_spec.specs.Names.{same_name}
use Rattle.ledger_spec.specs.Putting.{sorted_by}

-- The rows, the orders and the changes of prices, the newest first.
pub record Tables : Type 0 where
  pub rows : List Row
  pub orders : List Order
  pub changes : List PriceChange

-- Tables with nothing in them.
abbrev pub no_tables : Tables
no_tables = record { rows = []; orders = []; changes = [] }

-- Whether this is the row of the serial.
abbrev pub has_serial : List ℕ → Row → Bool
has_serial serial row = same_name row.serial serial

-- Whether this is the order with the id.
abbrev pub has_id : List ℕ → Order → Bool
has_id id order = same_name order.id id

-- The row of a serial among these, if there is one.
abbrev pub row_in : List Row → List ℕ → Option Row
row_in rows serial = find (has_serial serial) rows

-- The order with an id among these, if there is one.
abbrev pub order_in : List Order → List ℕ → Option Order
order_in orders id = find (has_id id) orders

-- The row of a device, if the shop keeps one.
abbrev pub row_of : Tables → List ℕ → Option Row
row_of tables serial = row_in tables.rows serial

-- The order with an id, if the shop keeps one.
abbrev pub order_of : Tables → List ℕ → Option Order
order_of tables id = order_in tables.orders id

-- The form in which the customer of this device types tokens, if the shop keeps a row of it.
abbrev pub form_in : Tables → List ℕ → Option Form
form_in tables serial = option_map (λ row. row.form) (row_of tables serial)

-- The rows with this one in the place of that of its serial.
abbrev pub rows_with : Row → List Row → List Row
rows_with row rows = map (λ old. if has_serial row.serial old then row else old) rows

-- The tables with a new row.
abbrev pub with_row : Row → Tables → Tables
with_row row tables = record { rows = row ∷ tables.rows; orders = tables.orders; changes = tables.changes }

-- The tables with a new order, and with this row in the place of the kept one.
abbrev pub with_order : Order → Row → Tables → Tables
with_order order row tables =
    record { rows = rows_with row tables.rows; orders = order ∷ tables.orders; changes = tables.changes }

-- Whether this is a change of the device's price.
abbrev pub is_change_of : List ℕ → PriceChange → Bool
is_change_of serial change = same_name change.serial serial

-- Whether a change holds from a count before that of another.
abbrev pub change_before : PriceChange → PriceChange → Bool
change_before a b = nat_lt a.from b.from

-- The changes of a device's price among these, by rising `from`.
abbrev pub prices_in : List PriceChange → List ℕ → List PriceChange
prices_in changes serial = sorted_by change_before (filter (is_change_of serial) changes)

-- The changes of a device's price, by rising `from`.
abbrev pub prices_for : Tables → List ℕ → List PriceChange
prices_for tables serial = prices_in tables.changes serial

-- Whether this is the change from a count on.
abbrev pub has_from : ℕ → PriceChange → Bool
has_from from change = change.from == from

-- The change of a device's price from a count on among these, if there is one.
abbrev pub change_in : List PriceChange → List ℕ → ℕ → Option PriceChange
change_in changes serial from = find (has_from from) (prices_in changes serial)

-- The change of a device's price from a count on, if the shop keeps one.
abbrev pub change_of : Tables → List ℕ → ℕ → Option PriceChange
change_of tables serial from = change_in tables.changes serial from

-- The price at a count by these changes, which stand by rising `from`: that of the last one from below the count on, or
-- the given price.
abbrev pub price_among : ℕ → ℕ → List PriceChange → ℕ
price_among price count [] = price
price_among price count (change ∷ changes) =
    price_among (if nat_lt change.from count then change.price else price) count changes

-- The price of one unit at a count: that of the row's change with the greatest `from` below the count, or the row's price.
abbrev pub price_at : Tables → Row → ℕ → ℕ
price_at tables row count = price_among row.price count (prices_for tables row.serial)

-- The tables with a new change of a price.
abbrev pub with_change : PriceChange → Tables → Tables
with_change change tables = record { rows = tables.rows; orders = tables.orders; changes = change ∷ tables.changes }

-- The row with the raised limit.
abbrev pub raised_row : Row → Row
raised_row row = record row { limit = GREAT }

-- The rows with the raised limit in one that was found, if one was.
abbrev pub rows_raised : Option Row → List Row → List Row
rows_raised None rows = rows
rows_raised (Some row) rows = rows_with (raised_row row) rows

-- The tables with the raised limit in a row that was found, if one was.
abbrev pub raised_by : Option Row → Tables → Tables
raised_by found tables =
    record { rows = rows_raised found tables.rows; orders = tables.orders; changes = tables.changes }

-- The tables with the raised limit in the row of a device.
abbrev pub with_raised : List ℕ → Tables → Tables
with_raised serial tables = raised_by (row_of tables serial) tables

-- The row with its last count lifted.
abbrev pub lifted_row : ℕ → Row → Row
lifted_row to row = record row { last = to }

-- The rows with the last count lifted in one that was found, if one was.
abbrev pub rows_lifted : ℕ → Option Row → List Row → List Row
rows_lifted to None rows = rows
rows_lifted to (Some row) rows = rows_with (lifted_row to row) rows

-- The tables with the last count lifted in a row that was found, if one was.
abbrev pub lifted_by : ℕ → Option Row → Tables → Tables
lifted_by to found tables =
    record { rows = rows_lifted to found tables.rows; orders = tables.orders; changes = tables.changes }

-- The tables with the last count lifted in the row of a device.
abbrev pub with_lifted : ℕ → List ℕ → Tables → Tables
with_lifted to serial tables = lifted_by to (row_of tables serial) tables

-- Whether this is a limit that a row may have.
abbrev pub is_limit : ℕ → Bool
is_limit limit = (limit == LAST) || (limit == GREAT)

-- A row is in range: money is counted in the smallest coin.
pub record RowIsInRange (row : Row) : Type 0 where
  pub serial : length row.serial ≤ 16
  pub start : row.start < 10 ^ 9
  pub divider : divides_day row.divider ≡ true
  pub price : (1 ≤ row.price) × (row.price ≤ 10 ^ 9)
  pub total : (1 ≤ row.total) × (row.total ≤ 10 ^ 12)
  pub limit : is_limit row.limit ≡ true
  pub last : row.last ≤ row.limit
  pub paid : row.paid ≤ row.last * 10 ^ 12
  pub rest : row.rest < 10 ^ 9

-- What is asked is in range.
abbrev pub AskIsInRange : Ask → Type 0
AskIsInRange (Pay amount) = (1 ≤ amount) × (amount ≤ 10 ^ 12)
AskIsInRange (Set units) = units ≤ 995
AskIsInRange Disable = Unit {0}
AskIsInRange Sync = Unit {0}

-- An order is in range.
pub record OrderIsInRange (order : Order) : Type 0 where
  pub serial : length order.serial ≤ 16
  pub ask : AskIsInRange order.ask
  pub count : (1 ≤ order.count) × (order.count ≤ GREAT)
  pub value : order.value ≤ 999
  pub token : order.token < 10 ^ 9

-- A change of a price is in range.
pub record ChangeIsInRange (change : PriceChange) : Type 0 where
  pub from : change.from ≤ GREAT
  pub price : (1 ≤ change.price) × (change.price ≤ 10 ^ 9)

-- Each row is in range, and none has the serial of an older one.
abbrev pub AreRows : List Row → Type 0
AreRows [] = Unit {0}
AreRows (row ∷ rows) = RowIsInRange row × (row_in rows row.serial ≡ None) × AreRows rows

-- Each order is in range, none has the id of an older one, and each is that of a device with a row.
abbrev pub AreOrders : List Row → List Order → Type 0
AreOrders rows [] = Unit {0}
AreOrders rows (order ∷ orders) =
    OrderIsInRange order × (order_in orders order.id ≡ None) × IsSome (row_in rows order.serial) × AreOrders rows orders

-- Each change is in range, no older one of its device holds from its count on, and each is that of a device with a row.
abbrev pub AreChanges : List Row → List PriceChange → Type 0
AreChanges rows [] = Unit {0}
AreChanges rows (change ∷ changes) =
    ChangeIsInRange change × (change_in changes change.serial change.from ≡ None) × IsSome (row_in rows change.serial)
    × AreChanges rows changes

-- The tables are in order: serials differ, ids differ, the changes of one device differ in the count from which they hold,
-- each order and each change is that of a device with a row, and all are in range.
pub record Kept (tables : Tables) : Type 0 where
  pub rows : AreRows tables.rows
  pub orders : AreOrders tables.rows tables.orders
  pub changes : AreChanges tables.rows tables.changes
