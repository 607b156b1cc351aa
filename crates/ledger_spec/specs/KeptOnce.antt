-- That tables are in order has one proof at most, so a keeper may hold it as a fact of its own.
use Rattle.std.specs.Prelude.{List, [], ◌∷◌}
use Rattle.std.proofs.Props.{props}
use Rattle.ledger_spec.specs.declared.Row.{Row}
use Rattle.ledger_spec.specs.declared.Order.{Order}
use Rattle.ledger_spec.specs.declared.PriceChange.{PriceChange}
use Rattle.ledger_spec.specs.declared.Ask.{Ask}
use Rattle.ledger_spec.specs.declared.Ask.TheVariants.{Pay, Set, Disable, Sync}
use Rattle.ledger_spec.specs.Tables.{Tables, AskIsInRange, RowIsInRange, OrderIsInRange, ChangeIsInRange, AreRows, AreOrders, AreChanges, Kept}

ask_prop : (ask : Ask) → IsProp (AskIsInRange ask)
ask_prop (Pay amount) = hlevel props
ask_prop (Set units) = hlevel props
ask_prop Disable = hlevel props
ask_prop Sync = hlevel props

row_prop : (row : Row) → IsProp (RowIsInRange row)
row_prop row = hlevel props

order_prop : (order : Order) → IsProp (OrderIsInRange order)
order_prop order = hlevel (props, ask_prop)

rows_prop : (rows : List Row) → IsProp (AreRows rows)
rows_prop [] = hlevel props
rows_prop (row ∷ rows) = hlevel (props, row_prop, rows_prop rows)

orders_prop : (rows : List Row) (orders : List Order) → IsProp (AreOrders rows orders)
orders_prop rows [] = hlevel props
orders_prop rows (order ∷ orders) = hlevel (props, order_prop, orders_prop rows orders)

change_prop : (change : PriceChange) → IsProp (ChangeIsInRange change)
change_prop change = hlevel props

changes_prop : (rows : List Row) (changes : List PriceChange) → IsProp (AreChanges rows changes)
changes_prop rows [] = hlevel props
changes_prop rows (change ∷ changes) = hlevel (props, change_prop, changes_prop rows changes)

pub kept_prop : (tables : Tables) → IsProp (Kept tables)
kept_prop tables = hlevel (props, rows_prop, orders_prop, changes_prop)
