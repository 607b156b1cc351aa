use Rattle.std.proofs.Common.{rules, ◌≡◌, ◌++◌, [], ◌∷◌, None, Some, Ok, IfOk, subst, ◌∙◌}
use Rattle.sqlite.specs.Held.{state}
use Rattle.ledger_spec.specs.declared.Row.{Row}
use Rattle.ledger_spec.specs.declared.Order.{Order}
use Rattle.ledger_spec.specs.Tables.{Tables, Kept, row_of, order_of}
use Rattle.ledger_spec.specs.Keeper.{IsOrderOf}
use Rattle.shop_tables.specs.Stored.{order_columns, row_columns}
use Rattle.shop_tables.specs.Telling.{Tells}
use Rattle.keeper_sqlite.proofs.Told.{order_told, for_all_tables}
use Rattle.keeper_sqlite.proofs.tables.TablesOver.order.Goals as goal

pub returns-clause-told : goal.returns-clause-told
returns-clause-told g c clean =
    let old = state g.S.Store c.args.self.now.conn in
    let ok : c.find_order.result ≡ Ok c.in_ok-found.found = search rules in
    let none = subst (λ r. IfOk r (λ found. (tables : Tables) → Tells old tables → order_of tables c.args.id.now ≡ None → found.items ≡ [])) ok (c.find_order.ensures.none clean) in
    let one = subst (λ r. IfOk r (λ found. (tables : Tables) → Tells old tables → Kept tables → (order : Order) → order_of tables c.args.id.now ≡ Some order → (row : Row) → row_of tables order.serial ≡ Some row
    → found.items ≡ (order_columns order ++ row_columns row) ∷ [])) ok (c.find_order.ensures.one clean) in
    let same = c.as_slice.ensures.value in
    for_all_tables (Tells old) (λ tables found. IsOrderOf tables c.args.id.now found) c.order_found.result (λ tables tells kept.
    order_told tables kept c.as_slice.result.now c.args.id.now c.order_found.result (λ is. same ∙ none tables tells is) (λ order is row has. same ∙ one tables tells kept order is row has)
    c.order_found.ensures.none c.order_found.ensures.said c.order_found.ensures.form)
