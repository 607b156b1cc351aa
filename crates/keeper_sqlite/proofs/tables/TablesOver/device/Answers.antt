use Rattle.std.proofs.Common.{rules, ◌≡◌, [], ◌∷◌, None, Some, Ok, IfOk, subst, ◌∙◌}
use Rattle.sqlite.specs.Held.{state}
use Rattle.ledger_spec.specs.declared.Row.{Row}
use Rattle.ledger_spec.specs.Tables.{Tables, Kept, row_of}
use Rattle.shop_tables.specs.Stored.{row_columns}
use Rattle.shop_tables.specs.Telling.{Tells}
use Rattle.keeper_sqlite.proofs.Told.{device_told, for_all_tables}
use Rattle.keeper_sqlite.proofs.tables.TablesOver.device.Goals as goal

pub returns-clause-told : goal.returns-clause-told
returns-clause-told g c clean =
    let old = state g.S.Store c.args.self.now.conn in
    let ok : c.find_device.result ≡ Ok c.in_ok-found.found = search rules in
    let none = subst (λ r. IfOk r (λ found. (tables : Tables) → Tells old tables → row_of tables c.args.serial.now ≡ None → found.items ≡ [])) ok (c.find_device.ensures.none clean) in
    let one = subst (λ r. IfOk r (λ found. (tables : Tables) → Tells old tables → Kept tables → (row : Row) → row_of tables c.args.serial.now ≡ Some row → found.items ≡ row_columns row ∷ [])) ok (c.find_device.ensures.one clean) in
    let same = c.as_slice.ensures.value in
    for_all_tables (Tells old) (λ tables found. found ≡ row_of tables c.args.serial.now) c.row_found.result (λ tables tells kept.
    device_told tables kept c.as_slice.result.now c.args.serial.now c.row_found.result (λ is. same ∙ none tables tells is) (λ row is. same ∙ one tables tells kept row is) c.row_found.ensures.none c.row_found.ensures.said)
