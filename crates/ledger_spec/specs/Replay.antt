-- What the orders of a device come to, one after another.
use Rattle.std.specs.Prelude.{◌≡◌, ℕ, ◌+◌, ◌/◌, ◌%◌, ◌<◌, ◌≤◌, Bool, true, false, nat_lt, List, [], ◌∷◌, filter, if◌then◌else◌}
use Rattle.std.specs.List.{AllByRecursion}
use Rattle.ledger_spec.specs.declared.Row.{Row}
use Rattle.ledger_spec.specs.declared.Order.{Order}
use Rattle.ledger_spec.specs.declared.Ask.{Ask}
use Rattle.ledger_spec.specs.declared.Ask.TheVariants.{Pay, Set, Disable, Sync}
use Rattle.ledger_spec.specs.declared.Kind.{Kind}
use Rattle.ledger_spec.specs.declared.Kind.TheVariants as kind_is
use Rattle.ledger_spec.specs.declared.PriceChange.{PriceChange}
use Rattle.ledger_spec.specs.Tables.{Tables, price_among}
use Rattle.ledger_spec.specs.Sorted.{is_for}

-- The money of a device: the sum paid, the rest that isn't turned into units yet, and whether its row is closed.
pub record Account : Type 0 where
  pub paid : ℕ
  pub rest : ℕ
  pub closed : Bool

-- That of a device with no order.
abbrev pub no_account : Account
no_account = record { paid = 0; rest = 0; closed = false }

-- That which a row says.
abbrev pub account_of : Row → Account
account_of row = record { paid = row.paid; rest = row.rest; closed = row.closed }

-- What an order does: the kind and the value of its token, and the account after it.
pub record Booked : Type 0 where
  pub kind : Kind
  pub value : ℕ
  pub account : Account

-- A payment below the total buys units at the price; one that reaches it frees the device.
abbrev pub paid_in : ℕ → ℕ → ℕ → Account → Booked
paid_in price total amount account =
    if nat_lt (account.paid + amount) total
    then record {
      kind = kind_is.Add;
      value = (account.rest + amount) / price;
      account = record account { paid = account.paid + amount; rest = (account.rest + amount) % price };
    }
    else record {
      kind = kind_is.Disable;
      value = 998;
      account = record { paid = account.paid + amount; rest = 0; closed = true };
    }

-- What an order for this does to an account, at a price and a total.
abbrev pub booked : ℕ → ℕ → Ask → Account → Booked
booked price total (Pay amount) account = paid_in price total amount account
booked price total (Set units) account =
    record { kind = kind_is.Set; value = units; account = record account { closed = false } }
booked price total Disable account =
    record { kind = kind_is.Disable; value = 998; account = record account { closed = true } }
booked price total Sync account = record { kind = kind_is.Sync; value = 999; account = account }

-- The account of a device after its orders, the newest first, where each count has a price.
abbrev pub account_after : (ℕ → ℕ) → ℕ → List Order → Account
account_after price total [] = no_account
account_after price total (order ∷ orders) =
    (booked (price order.count) total order.ask (account_after price total orders)).account

-- The same from the oldest order on, which stand by rising count.
abbrev pub account_from : (ℕ → ℕ) → ℕ → Account → List Order → Account
account_from price total account [] = account
account_from price total account (order ∷ orders) =
    account_from price total (booked (price order.count) total order.ask account).account orders

-- Each of the orders, the newest first, has the kind and the value that it has to have after the older ones.
abbrev pub AreBooked : (ℕ → ℕ) → ℕ → List Order → Type 0
AreBooked price total [] = Unit {0}
AreBooked price total (order ∷ orders) =
    (order.kind ≡ (booked (price order.count) total order.ask (account_after price total orders)).kind)
    × (order.value ≡ (booked (price order.count) total order.ask (account_after price total orders)).value)
    × AreBooked price total orders

-- The counts fall along the orders, from below this bound: so the newest first is by falling count.
abbrev pub FallBelow : ℕ → List Order → Type 0
FallBelow bound [] = Unit {0}
FallBelow bound (order ∷ orders) = (order.count < bound) × FallBelow order.count orders

-- The orders of a device, the newest first.
abbrev pub orders_back : Tables → List ℕ → List Order
orders_back tables serial = filter (is_for serial) tables.orders

-- The price at each count, by the changes of the row's price.
abbrev pub price_by : List PriceChange → Row → ℕ → ℕ
price_by changes row count = price_among row.price count changes

-- The row is what its orders, the newest first, and the changes of its price come to: counts fall and are at most the
-- row's last one, each change holds from such a count on, each order has the kind and the value that it has to have, and
-- the row says what the orders come to.
pub record IsReplayed (orders : List Order) (changes : List PriceChange) (row : Row) : Type 0 where
  pub falls : FallBelow (row.last + 1) orders
  pub froms : AllByRecursion (λ c. c.from ≤ row.last) changes
  pub booked : AreBooked (price_by changes row) row.total orders
  pub account : account_after (price_by changes row) row.total orders ≡ account_of row
