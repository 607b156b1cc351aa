-- What the statements that add make of the trees: one of them has a new row.
use Rattle.std.proofs.Common.{◌≡◌, ℕ, List, [], ◌∷◌, false, None, Ok, refl, subst}
use Rattle.sqlite.specs.declared.types.Value.TheVariants.{Null, Int}
use Rattle.sqlite.specs.Term.{Term, lit, col}
use Rattle.sqlite.specs.Source.TheVariants.{Values}
use Rattle.sqlite.specs.Command.TheVariants.{Insert}
use Rattle.sqlite.specs.Cast.{cast_all}
use Rattle.sqlite.specs.Edit.{next_rowid}
use Rattle.sqlite.specs.Listing.{understood}
use Rattle.sqlite.specs.Does.{Does}
use Rattle.sqlite.specs.Effect.{Database}
use Rattle.sqlite.specs.State.{State, Executes, mode_of}
use Rattle.sqlite.proofs.Callers.{runs_as, statement_of}
use Rattle.ledger_spec.specs.declared.Row.{Row}
use Rattle.ledger_spec.specs.declared.Order.{Order}
use Rattle.ledger_spec.specs.declared.PriceChange.{PriceChange}
use Rattle.shop_tables.specs.Schema.{shop_schema, device, token_order, raised, price_change, device_tree, order_tree, raised_tree, change_tree}
use Rattle.shop_tables.specs.Stored.{device_columns, order_columns, change_columns, raised_columns}
use Rattle.shop_tables.specs.declared.statements.TheConstants.{ADD_DEVICE, ADD_ORDER, ADD_PRICE, RAISE}
use Rattle.shop_tables.proofs.Commands.{order_terms, add_order_is, add_order_plain, device_terms, add_device_is, add_device_plain, raise_is, raise_plain, add_price_is, add_price_plain}
use Rattle.shop_tables.proofs.Inserting.{Puts, inserted, cast_number}
use Rattle.shop_tables.proofs.Putting.{device_cast}

order_cast : (order : Order) → cast_all token_order.columns (order_columns order) ≡ order_columns order
order_cast order = simp cast_number refl

pub added_order : (old new : State) (order : Order) (n : ℕ) → old.now.schema ≡ shop_schema → Executes ADD_ORDER.now (order_columns order) old new (Ok n)
    → Puts order_tree (Int (next_rowid (old.now.trees order_tree)) ∷ order_columns order) (let d : Database = record { schema = shop_schema; trees = old.now.trees } in d) new.now
added_order old new order n has h =
    let params = order_columns order in
    let w = runs_as ADD_ORDER.now params old new shop_schema has (Insert 1 (Values order_terms 9)) add_order_is add_order_plain n h in
    let text = statement_of ADD_ORDER.now (understood shop_schema ADD_ORDER.now) in
    let done = subst (λ s. Does old.step_limit (mode_of old) params (record old.now { schema = s }) text None (Insert 1 (Values order_terms 9)) (Ok (w.tally, new.now))) has w.changed in
    (inserted token_order.name order_tree token_order.columns token_order.primary token_order.references old.step_limit (mode_of old) 1 9 order_terms params params old.now.trees w.tally new.now
    refl (order_cast order) (λ row. refl) done).0

pub price_cast : (change : PriceChange) → cast_all price_change.columns (change_columns change) ≡ change_columns change
price_cast change = simp cast_number refl

pub added_price : (old new : State) (change : PriceChange) (n : ℕ) → old.now.schema ≡ shop_schema → Executes ADD_PRICE.now (change_columns change) old new (Ok n)
    → Puts change_tree (Int (next_rowid (old.now.trees change_tree)) ∷ change_columns change) (let d : Database = record { schema = shop_schema; trees = old.now.trees } in d) new.now
added_price old new change n has h =
    let params = change_columns change in
    let terms : List Term = lit Null ∷ col 0 0 ∷ col 0 1 ∷ col 0 2 ∷ [] in
    let w = runs_as ADD_PRICE.now params old new shop_schema has (Insert 3 (Values terms 4)) add_price_is add_price_plain n h in
    let text = statement_of ADD_PRICE.now (understood shop_schema ADD_PRICE.now) in
    let done = subst (λ s. Does old.step_limit (mode_of old) params (record old.now { schema = s }) text None (Insert 3 (Values terms 4)) (Ok (w.tally, new.now))) has w.changed in
    (inserted price_change.name change_tree price_change.columns price_change.primary price_change.references old.step_limit (mode_of old) 3 4 terms params params old.now.trees w.tally new.now
    refl (price_cast change) (λ row. refl) done).0

pub added_raised : (old new : State) (serial : List ℕ) (n : ℕ) → old.now.schema ≡ shop_schema → Executes RAISE.now (raised_columns serial) old new (Ok n)
    → Puts raised_tree (Int (next_rowid (old.now.trees raised_tree)) ∷ raised_columns serial) (let d : Database = record { schema = shop_schema; trees = old.now.trees } in d) new.now
added_raised old new serial n has h =
    let params = raised_columns serial in
    let terms : List Term = lit Null ∷ col 0 0 ∷ [] in
    let w = runs_as RAISE.now params old new shop_schema has (Insert 2 (Values terms 2)) raise_is raise_plain n h in
    let text = statement_of RAISE.now (understood shop_schema RAISE.now) in
    let done = subst (λ s. Does old.step_limit (mode_of old) params (record old.now { schema = s }) text None (Insert 2 (Values terms 2)) (Ok (w.tally, new.now))) has w.changed in
    (inserted raised.name raised_tree raised.columns raised.primary raised.references old.step_limit (mode_of old) 2 2 terms params params old.now.trees w.tally new.now refl refl (λ row. refl) done).0

pub added_device : (old new : State) (row : Row) (n : ℕ) → old.now.schema ≡ shop_schema → Executes ADD_DEVICE.now (device_columns row) old new (Ok n)
    → Puts device_tree (Int (next_rowid (old.now.trees device_tree)) ∷ device_columns row) (let d : Database = record { schema = shop_schema; trees = old.now.trees } in d) new.now
added_device old new row n has h =
    let params = device_columns row in
    let w = runs_as ADD_DEVICE.now params old new shop_schema has (Insert 0 (Values device_terms 12)) add_device_is add_device_plain n h in
    let text = statement_of ADD_DEVICE.now (understood shop_schema ADD_DEVICE.now) in
    let done = subst (λ s. Does old.step_limit (mode_of old) params (record old.now { schema = s }) text None (Insert 0 (Values device_terms 12)) (Ok (w.tally, new.now))) has w.changed in
    (inserted device.name device_tree device.columns device.primary device.references old.step_limit (mode_of old) 0 12 device_terms params params old.now.trees w.tally new.now
    refl (device_cast row false) (λ row. refl) done).0
