-- Tables stay in order when a row or an order is added.
use Rattle.std.proofs.lemmas.Bool.Decides.{nat_tests}
use Rattle.std.proofs.Common.{◌<◌, ◌≤◌, ◌*◌, ◌^◌, arith, ◌≡◌, ℕ, List, [], ◌∷◌, Bool, true, false, inl, inr, Option, Some, None, cond, refl, sym, ap, subst, ◌∙◌}
use Rattle.std.specs.Prelude.{IsSome, IfSome, IsSomeAnd}
use Rattle.ledger_spec.specs.declared.Row.{Row}
use Rattle.ledger_spec.specs.declared.Order.{Order}
use Rattle.ledger_spec.specs.declared.PriceChange.{PriceChange}
use Rattle.ledger_spec.specs.Names.{same_name}
use Rattle.ledger_spec.specs.Tables.{Tables, has_serial, row_in, order_in, row_of, order_of, rows_with, with_row, with_order, change_of, with_change, raised_row, raised_by, with_raised, lifted_row, lifted_by, with_lifted, is_limit, RowIsInRange, OrderIsInRange, ChangeIsInRange, AreRows, AreOrders, AreChanges, Kept}
use Rattle.ledger_spec.proofs.NameLemmas.{same_or_not}
use Rattle.ledger_spec.proofs.Lookups.{put_serial, row_other, row_same, row_none, row_found_again}

-- a limit is at most the greatest one
pub limit_low : (limit : ℕ) → is_limit limit ≡ true → limit ≤ 16383
limit_low limit is = grind (arith, nat_tests)

pub below_great : (limit last : ℕ) → is_limit limit ≡ true → last ≤ limit → last ≤ 16383
below_great limit last is below = let low : limit ≤ 16383 = limit_low limit is in omega arith

-- the rows stay in order when one takes the place of another
pub rows_stay : (row : Row) → RowIsInRange row → (rows : List Row) → AreRows rows → AreRows (rows_with row rows)
rows_stay row in_range [] are = tt
rows_stay row in_range (old ∷ rows) are = (
  (elim (has_serial row.serial old) as (λ t. RowIsInRange (cond t row old)) [ true ↦ in_range | false ↦ are.0 ]),
  rw (put_serial row old) (row_none row rows old.serial are.1),
  rows_stay row in_range rows are.2,
)

-- the orders stay in order while no device loses its row
pub orders_stay : (rows new : List Row) → ((serial : List ℕ) → IsSome (row_in rows serial) → IsSome (row_in new serial)) → (orders : List Order) → AreOrders rows orders → AreOrders new orders
orders_stay rows new stay [] are = tt
orders_stay rows new stay (order ∷ orders) are = (are.0, are.1, stay order.serial are.2, orders_stay rows new stay orders are.3)

-- the changes of prices stay in order while no device loses its row
pub changes_stay : (rows new : List Row) → ((serial : List ℕ) → IsSome (row_in rows serial) → IsSome (row_in new serial)) → (changes : List PriceChange) → AreChanges rows changes → AreChanges new changes
changes_stay rows new stay [] are = tt
changes_stay rows new stay (change ∷ changes) are = (are.0, are.1, stay change.serial are.2, changes_stay rows new stay changes are.3)

pub some_by : (o p : Option Row) → p ≡ o → IsSome o → IsSome p
some_by o p is some = subst (λ (x : Option Row). IsSome x) (sym is) some

-- a device keeps a row when one takes the place of another
pub some_with : (row : Row) (rows : List Row) (old : Row) → row_in rows row.serial ≡ Some old → (serial : List ℕ) → IsSome (row_in rows serial) → IsSome (row_in (rows_with row rows) serial)
some_with row rows old is serial some = elim (same_or_not row.serial serial) [
  | inl same ↦ some_by (Some row) (row_in (rows_with row rows) serial) (ap (λ s. row_in (rows_with row rows) s) (sym same) ∙ row_same row rows old is) refl
  | inr other ↦ some_by (row_in rows serial) (row_in (rows_with row rows) serial) (row_other row rows serial other) some
]

-- a device keeps a row when another row is added
pub some_more : (row : Row) (rows : List Row) (serial : List ℕ) → IsSome (row_in rows serial) → IsSome (row_in (row ∷ rows) serial)
some_more row rows serial some = elim (same_name row.serial serial) as (λ t. IsSome (cond t (Some row) (row_in rows serial))) [ true ↦ refl | false ↦ some ]

-- the tables stay in order when a row is added
pub kept_with_row : (row : Row) (tables : Tables) → RowIsInRange row → row_of tables row.serial ≡ None → Kept tables → Kept (with_row row tables)
kept_with_row row tables in_range none kept = record {
  rows = (in_range, none, kept.rows);
  orders = orders_stay tables.rows (row ∷ tables.rows) (some_more row tables.rows) tables.orders kept.orders;
  changes = changes_stay tables.rows (row ∷ tables.rows) (some_more row tables.rows) tables.changes kept.changes;
}

-- the tables stay in order when an order is added, and a row takes the place of the kept one
pub kept_with_order : (order : Order) (row old : Row) (tables : Tables) → OrderIsInRange order → RowIsInRange row → row.serial ≡ order.serial
    → order_of tables order.id ≡ None → row_of tables row.serial ≡ Some old → Kept tables → Kept (with_order order row tables)
kept_with_order order row old tables order_in_range row_in_range same none is kept = record {
  rows = rows_stay row row_in_range tables.rows kept.rows;
  orders = (
    order_in_range,
    none,
    some_by (Some row) (row_in (rows_with row tables.rows) order.serial) (ap (λ s. row_in (rows_with row tables.rows) s) (sym same) ∙ row_same row tables.rows old is) refl,
    orders_stay tables.rows (rows_with row tables.rows) (some_with row tables.rows old is) tables.orders kept.orders,
  );
  changes = changes_stay tables.rows (rows_with row tables.rows) (some_with row tables.rows old is) tables.changes kept.changes;
}

-- the tables stay in order when a change of a price is added
pub kept_with_change : (change : PriceChange) (tables : Tables) → ChangeIsInRange change → change_of tables change.serial change.from ≡ None → IsSome (row_of tables change.serial) → Kept tables → Kept (with_change change tables)
kept_with_change change tables in_range none some kept = record { rows = kept.rows; orders = kept.orders; changes = (in_range, none, some, kept.changes) }

-- a row stays in range with the raised limit
pub raised_fits : (row : Row) → RowIsInRange row → RowIsInRange (raised_row row)
raised_fits row in_range = record {
  serial = in_range.serial;
  start = in_range.start;
  divider = in_range.divider;
  price = in_range.price;
  total = in_range.total;
  limit = refl;
  last = below_great row.limit row.last in_range.limit in_range.last;
  paid = in_range.paid;
  rest = in_range.rest;
}

-- the tables stay in order when the limit of a row is raised
pub kept_raised : (row : Row) (tables : Tables) → row_of tables row.serial ≡ Some row → RowIsInRange row → Kept tables → Kept (raised_by (Some row) tables)
kept_raised row tables is in_range kept = record {
  rows = rows_stay (raised_row row) (raised_fits row in_range) tables.rows kept.rows;
  orders = orders_stay tables.rows (rows_with (raised_row row) tables.rows) (some_with (raised_row row) tables.rows row is) tables.orders kept.orders;
  changes = changes_stay tables.rows (rows_with (raised_row row) tables.rows) (some_with (raised_row row) tables.rows row is) tables.changes kept.changes;
}

-- a row stays in range with a greater last count, up to its limit
paid_later : (paid last to : ℕ) → paid ≤ last * 10 ^ 12 → last ≤ to → paid ≤ to * 10 ^ 12
paid_later paid last to low more = omega arith

pub lifted_fits : (to : ℕ) (row : Row) → row.last < to → to ≤ row.limit → RowIsInRange row → RowIsInRange (lifted_row to row)
lifted_fits to row above within in_range = record {
  serial = in_range.serial;
  start = in_range.start;
  divider = in_range.divider;
  price = in_range.price;
  total = in_range.total;
  limit = in_range.limit;
  last = within;
  paid = paid_later row.paid row.last to in_range.paid (omega arith);
  rest = in_range.rest;
}

-- the tables stay in order when the last count of a row is lifted
pub kept_lifted : (to : ℕ) (row : Row) (tables : Tables) → row.last < to → to ≤ row.limit → row_of tables row.serial ≡ Some row → RowIsInRange row → Kept tables → Kept (lifted_by to (Some row) tables)
kept_lifted to row tables above within is in_range kept = record {
  rows = rows_stay (lifted_row to row) (lifted_fits to row above within in_range) tables.rows kept.rows;
  orders = orders_stay tables.rows (rows_with (lifted_row to row) tables.rows) (some_with (lifted_row to row) tables.rows row is) tables.orders kept.orders;
  changes = changes_stay tables.rows (rows_with (lifted_row to row) tables.rows) (some_with (lifted_row to row) tables.rows row is) tables.changes kept.changes;
}

-- each row that is found is in range
pub row_found : (rows : List Row) (serial : List ℕ) → AreRows rows → IfSome (row_in rows serial) RowIsInRange
row_found [] serial are = tt
row_found (row ∷ rows) serial are = elim (same_name row.serial serial) as (λ t. IfSome (cond t (Some row) (row_in rows serial)) RowIsInRange) [ true ↦ are.0 | false ↦ row_found rows serial are.2 ]

-- each order that is found is in range, and its device has a row
abbrev pub IsKeptOrder : List Row → Order → Type 0
IsKeptOrder rows order = OrderIsInRange order × IsSome (row_in rows order.serial)

pub order_found : (rows : List Row) (orders : List Order) (id : List ℕ) → AreOrders rows orders → IfSome (order_in orders id) (IsKeptOrder rows)
order_found rows [] id are = tt
order_found rows (order ∷ orders) id are = elim (same_name order.id id) as (λ t. IfSome (cond t (Some order) (order_in orders id)) (IsKeptOrder rows)) [ true ↦ (are.0, are.2) | false ↦ order_found rows orders id are.3 ]

-- the same at what was found
pub order_kept : (rows : List Row) (orders : List Order) (id : List ℕ) (order : Order) → AreOrders rows orders → order_in orders id ≡ Some order → IsKeptOrder rows order
order_kept rows orders id order are is = subst (λ (o : Option Order). IfSome o (IsKeptOrder rows)) is (order_found rows orders id are)

pub row_kept : (rows : List Row) (serial : List ℕ) (row : Row) → AreRows rows → row_in rows serial ≡ Some row → RowIsInRange row
row_kept rows serial row are is = subst (λ (o : Option Row). IfSome o RowIsInRange) is (row_found rows serial are)

-- the tables stay in order if a row is added, and if none is
pub kept_if_row : (added : Bool) (row : Row) (tables : Tables) → RowIsInRange row → row_of tables row.serial ≡ None → Kept tables
    → Kept record { rows = cond added (row ∷ tables.rows) tables.rows; orders = tables.orders; changes = tables.changes }
kept_if_row true row tables in_range none kept = kept_with_row row tables in_range none kept
kept_if_row false row tables in_range none kept = kept

-- what is there, is something
pub some_is : (o : Option Row) → IsSome o → (old : Row) × (o ≡ Some old)
some_is (Some old) some = (old, refl)
some_is None some = cc

-- the tables stay in order if an order is added
pub kept_if_order : (added : Bool) → added ≡ true → (order : Order) (row : Row) (tables : Tables) → OrderIsInRange order → RowIsInRange row → row.serial ≡ order.serial
    → order_of tables order.id ≡ None → IsSome (row_of tables row.serial) → Kept tables
    → Kept record { rows = rows_with row tables.rows; orders = cond added (order ∷ tables.orders) tables.orders; changes = tables.changes }
kept_if_order true is order row tables order_in_range row_in_range same none some kept =
    let old = some_is (row_of tables row.serial) some in
    kept_with_order order row old.0 tables order_in_range row_in_range same none old.1 kept
kept_if_order false is order row tables order_in_range row_in_range same none some kept = cc

-- the device of a kept order has a row
pub kept_has_row : (tables : Tables) (id : List ℕ) (order : Order) → Kept tables → order_of tables id ≡ Some order → row_of tables order.serial ≡ None → ⊥
kept_has_row tables id order kept is none =
    let row = some_is (row_of tables order.serial) (order_kept tables.rows tables.orders id order kept.orders is).1 in
    let bad : None ≡ Some row.0 = sym none ∙ row.1 in
    cc

-- the tables stay in order if a change of a price is added, and if none is
pub kept_if_change : (added : Bool) (change : PriceChange) (tables : Tables) → ChangeIsInRange change → change_of tables change.serial change.from ≡ None → IsSome (row_of tables change.serial) → Kept tables
    → Kept record { rows = tables.rows; orders = tables.orders; changes = cond added (change ∷ tables.changes) tables.changes }
kept_if_change true change tables in_range none some kept = kept_with_change change tables in_range none some kept
kept_if_change false change tables in_range none some kept = kept

-- the tables stay in order when the limit of a row that was found is raised
pub kept_raised_found : (serial : List ℕ) (row : Row) (tables : Tables) → row_of tables serial ≡ Some row → Kept tables → Kept (raised_by (Some row) tables)
kept_raised_found serial row tables is kept = kept_raised row tables (row_found_again tables.rows serial row is) (row_kept tables.rows serial row kept.rows is) kept

-- the tables stay in order when the last count of a row that was found is lifted, and that of the row of its serial
pub kept_lifted_found : (to : ℕ) (serial : List ℕ) (row : Row) (tables : Tables) → row.last < to → to ≤ row.limit → row_of tables serial ≡ Some row → Kept tables → Kept (lifted_by to (Some row) tables)
kept_lifted_found to serial row tables above within is kept = kept_lifted to row tables above within (row_found_again tables.rows serial row is) (row_kept tables.rows serial row kept.rows is) kept

lifted_or_not : (to : ℕ) (serial : List ℕ) (tables : Tables) (found : Option Row) → row_of tables serial ≡ found → IsSomeAnd found (λ row. (row.last < to) × (to ≤ row.limit)) → Kept tables → Kept (lifted_by to found tables)
lifted_or_not to serial tables None is may kept = kept
lifted_or_not to serial tables (Some row) is may kept = kept_lifted_found to serial row tables may.0 may.1 is kept

pub kept_with_lifted : (to : ℕ) (serial : List ℕ) (tables : Tables) → IsSomeAnd (row_of tables serial) (λ row. (row.last < to) × (to ≤ row.limit)) → Kept tables → Kept (with_lifted to serial tables)
kept_with_lifted to serial tables may kept = lifted_or_not to serial tables (row_of tables serial) refl may kept

pub lifted_by_own : (to : ℕ) (row : Row) (tables : Tables) → row_of tables row.serial ≡ Some row → with_lifted to row.serial tables ≡ lifted_by to (Some row) tables
lifted_by_own to row tables is = ap (λ (o : Option Row). lifted_by to o tables) is

-- a raise of a row that was found is a raise of the row of its serial
pub raised_by_own : (row : Row) (tables : Tables) → row_of tables row.serial ≡ Some row → with_raised row.serial tables ≡ raised_by (Some row) tables
raised_by_own row tables is = ap (λ (o : Option Row). raised_by o tables) is

-- the tables stay in order when the limit of the row of a serial is raised, if there is one
raised_or_not : (serial : List ℕ) (tables : Tables) (found : Option Row) → row_of tables serial ≡ found → Kept tables → Kept (raised_by found tables)
raised_or_not serial tables None is kept = kept
raised_or_not serial tables (Some row) is kept = kept_raised_found serial row tables is kept

pub kept_with_raised : (serial : List ℕ) (tables : Tables) → Kept tables → Kept (with_raised serial tables)
kept_with_raised serial tables kept = raised_or_not serial tables (row_of tables serial) refl kept
