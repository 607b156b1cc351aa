-- The statement that asks for the orders of a serial shows them as the ledger lists them.
use Rattle.std.proofs.Common.{◌≡◌, ℕ, List, [], ◌∷◌, map, filter, false, refl, sym, ap, ◌∙◌, is_eq}
use Rattle.sqlite_trees.specs.Tree.{IsAscending}
use Rattle.sqlite_keyed.proofs.ListLemmas.{ascending-filter, ascending_weaker}
use Rattle.sqlite_schema.specs.declared.program.Program.{Program}
use Rattle.sqlite.specs.Command.TheVariants.{Select}
use Rattle.sqlite.specs.declared.types.Value.TheVariants.{Null, Text}
use Rattle.sqlite.specs.Order.{Row as Columns}
use Rattle.sqlite.specs.Program.{overlay}
use Rattle.sqlite.specs.Query.{Output, IsAnswer, output, output_cmp, inner, end}
use Rattle.sqlite.specs.State.{State, Shown}
use Rattle.sqlite.proofs.Callers.{reads_as}
use Rattle.ledger_spec.specs.declared.Order.{Order}
use Rattle.ledger_spec.specs.declared.Row.{Row}
use Rattle.ledger_spec.specs.Sorted.{order_before, is_for, orders_for}
use Rattle.ledger_spec.specs.Tables.{Tables, Kept, AreOrders, has_id}
use Rattle.shop_tables.specs.Schema.{shop_schema, order_tree}
use Rattle.shop_tables.specs.Stored.{count, order_columns, raised_columns}
use Rattle.shop_tables.specs.Telling.{Tells}
use Rattle.shop_tables.specs.declared.statements.TheConstants.{ORDERS}
use Rattle.shop_tables.proofs.ListingShown.{shown_sorted, none_found}
use Rattle.shop_tables.proofs.ListingStatements.{orders_query, order_names, of_given, order_project, by_count, orders_is, orders_plain, orders_unlisted}
use Rattle.shop_tables.proofs.ListingKeys.{above_two, apart_two}
use Rattle.shop_tables.proofs.ListingAsked.{seen, asked_in, all_shown}

-- what an order is sorted by, and what is shown of it
abbrev out : Order → Output
out order = (count order.count ∷ Text order.id ∷ [], order_columns order)

-- orders have different ids
pub ids_differ : (rows : List Row) (orders : List Order) → AreOrders rows orders → IsAscending (λ x y. has_id x.id y ≡ false) orders
ids_differ rows [] are = tt
ids_differ rows (order ∷ orders) are = (none_found (has_id order.id) orders are.1, ids_differ rows orders are.3)

orders_apart : (rows : List Row) (orders : List Order) (serial : List ℕ) → AreOrders rows orders → IsAscending (λ x y. is_eq (output_cmp orders_query (out x) (out y)) ≡ false) (filter (is_for serial) orders)
orders_apart rows orders serial are =
    ascending_weaker (λ x y. has_id x.id y ≡ false) (λ x y. is_eq (output_cmp orders_query (out x) (out y)) ≡ false) (λ x y differ. apart_two _ x.id y.id differ) (filter (is_for serial) orders)
    (ascending-filter (λ x y. has_id x.id y ≡ false) (is_for serial) orders (ids_differ rows orders are))

pub orders_shown : (serial : List ℕ) (old new : State) (shown : List Columns) → Shown ORDERS.now (raised_columns serial) old new shown → (tables : Tables) → Tells old tables → Kept tables
    → shown ≡ map order_columns (orders_for tables serial)
orders_shown serial old new shown h tables tells kept =
    let q : Program = record { lets = []; body = orders_query } in
    let db = overlay old.now.trees [] in
    let answer : IsAnswer orders_query db (raised_columns serial) shown =
    (reads_as ORDERS.now (raised_columns serial) old new shop_schema tells.schema (Select q order_names) orders_is orders_plain orders_unlisted shown h).answer Null in
    let sees = seen order_columns (λ (o : Order). o.serial) 2 (λ n x. refl) serial in
    let met = ap (map (output orders_query)) (asked_in order_columns (λ (o : Order). o.serial) 2 (λ n x. refl) serial old.now.trees order_tree tables.orders tells.hold.orders)
    ∙ all_shown orders_query sees (is_for serial) out (λ h. refl) tables.orders in
    shown_sorted (inner order_tree end) (of_given 2) order_project by_count out db (raised_columns serial) shown (filter (is_for serial) tables.orders) met answer
    order_before (λ x y. sym (above_two x.count y.count x.id y.id)) (orders_apart tables.rows tables.orders serial kept.orders)
