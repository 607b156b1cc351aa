-- The statement that asks for the orders of a serial from the newest on shows them as the ledger lists them.
use Rattle.std.proofs.Common.{◌≡◌, ℕ, suc, ◌<◌, List, [], ◌∷◌, length, map, Bool, true, false, cond, refl, ap, ◌∙◌, arith, Less}
use Rattle.std.specs.List.{AllByRecursion}
use Rattle.sqlite_value.proofs.OrderLemmas.{then-Equal}
use Rattle.sqlite_trees.specs.Tree.{IsAscending}
use Rattle.sqlite_keyed.proofs.ListLemmas.{ascending_weaker}
use Rattle.sqlite_schema.specs.declared.program.Program.{Program}
use Rattle.sqlite.specs.Command.TheVariants.{Select}
use Rattle.sqlite.specs.declared.types.Value.TheVariants.{Null}
use Rattle.sqlite.specs.Order.{Row as Columns}
use Rattle.sqlite.specs.Program.{overlay}
use Rattle.sqlite.specs.Query.{Output, IsAnswer, output, output_cmp, inner, end}
use Rattle.sqlite.specs.State.{State, Shown}
use Rattle.sqlite.proofs.Callers.{reads_as}
use Rattle.ledger_spec.specs.declared.Order.{Order}
use Rattle.ledger_spec.specs.Sorted.{is_for}
use Rattle.ledger_spec.specs.Replay.{orders_back}
use Rattle.ledger_spec.specs.Tables.{Tables, Kept}
use Rattle.shop_tables.specs.Schema.{shop_schema, order_tree}
use Rattle.shop_tables.specs.Stored.{count, order_columns, raised_columns}
use Rattle.shop_tables.specs.Telling.{Tells}
use Rattle.shop_tables.specs.declared.statements.TheConstants.{ORDERS_BACK}
use Rattle.shop_tables.proofs.Pushing.{less}
use Rattle.shop_tables.proofs.Finding.{hits}
use Rattle.shop_tables.proofs.ListingShown.{shown_rising, hits_as}
use Rattle.shop_tables.proofs.ListingStatements.{orders_back_query, order_names, of_given, order_project, by_rowid, orders_back_is, orders_back_plain, orders_back_unlisted}
use Rattle.shop_tables.proofs.ListingAsked.{seen, asked_in, hits_shown}

-- what an order is sorted by, which is its number, and what is shown of it
abbrev out : ℕ × Order → Output
out h = (count h.0 ∷ [], order_columns h.1)

-- the numbers of the hits fall, from that of the newest row on
module _ {X : Type 0} (test : X → Bool) where
  numbers_below : (xs : List X) (n : ℕ) → length xs < n → AllByRecursion (λ (h : ℕ × X). h.0 < n) (hits test xs)
  numbers_below [] n low = tt
  numbers_below (x ∷ xs) n low = elim (test x) as (λ t. AllByRecursion (λ (h : ℕ × X). h.0 < n) (cond t ((suc (length xs), x) ∷ hits test xs) (hits test xs))) [
    | true ↦ (low, numbers_below xs n (omega (arith, low)))
    | false ↦ numbers_below xs n (omega (arith, low))
  ]

  numbers_fall : (xs : List X) → IsAscending (λ (h k : ℕ × X). k.0 < h.0) (hits test xs)
  numbers_fall [] = tt
  numbers_fall (x ∷ xs) = elim (test x) as (λ t. IsAscending (λ (h k : ℕ × X). k.0 < h.0) (cond t ((suc (length xs), x) ∷ hits test xs) (hits test xs))) [
    | true ↦ (numbers_below xs (suc (length xs)) (omega arith), numbers_fall xs)
    | false ↦ numbers_fall xs
  ]

stands_first : (h k : ℕ × Order) → k.0 < h.0 → output_cmp orders_back_query (out h) (out k) ≡ Less
stands_first h k low = then-Equal _ ∙ less k.0 h.0 low

pub orders_back_shown : (serial : List ℕ) (old new : State) (shown : List Columns) → Shown ORDERS_BACK.now (raised_columns serial) old new shown → (tables : Tables) → Tells old tables → Kept tables
    → shown ≡ map order_columns (orders_back tables serial)
orders_back_shown serial old new shown h tables tells kept =
    let q : Program = record { lets = []; body = orders_back_query } in
    let db = overlay old.now.trees [] in
    let answer : IsAnswer orders_back_query db (raised_columns serial) shown =
    (reads_as ORDERS_BACK.now (raised_columns serial) old new shop_schema tells.schema (Select q order_names) orders_back_is orders_back_plain orders_back_unlisted shown h).answer Null in
    let sees = seen order_columns (λ (o : Order). o.serial) 2 (λ n x. refl) serial in
    let met = ap (map (output orders_back_query)) (asked_in order_columns (λ (o : Order). o.serial) 2 (λ n x. refl) serial old.now.trees order_tree tables.orders tells.hold.orders)
    ∙ hits_shown orders_back_query sees (is_for serial) out (λ h. refl) tables.orders in
    shown_rising (inner order_tree end) (of_given 2) order_project by_rowid out db (raised_columns serial) shown (hits (is_for serial) tables.orders) met answer
    (ascending_weaker (λ (h k : ℕ × Order). k.0 < h.0) (λ h k. output_cmp orders_back_query (out h) (out k) ≡ Less) stands_first (hits (is_for serial) tables.orders) (numbers_fall (is_for serial) tables.orders))
    ∙ hits_as (is_for serial) order_columns tables.orders
