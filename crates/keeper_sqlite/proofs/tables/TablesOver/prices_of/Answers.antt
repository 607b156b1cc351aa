use Rattle.std.proofs.Common.{rules, ◌≡◌, map, Ok, IfOk, ap, subst, ◌∙◌}
use Rattle.sqlite.specs.Held.{state}
use Rattle.ledger_spec.specs.Tables.{Tables, Kept, prices_for}
use Rattle.table_columns.specs.Said.{change_said}
use Rattle.shop_tables.specs.Stored.{change_columns}
use Rattle.shop_tables.specs.Telling.{Tells}
use Rattle.shop_tables.proofs.Decoding.{changes_decoded}
use Rattle.shop_tables.proofs.Staying.{if_ok}
use Rattle.keeper_sqlite.proofs.tables.TablesOver.prices_of.Goals as goal

pub returns-clause-told : goal.returns-clause-told
returns-clause-told g c clean =
    let ok : c.find_prices.result ≡ Ok c.in_ok-found.found = search rules in
    let shown = subst (λ r. IfOk r (λ found. (tables : Tables) → Tells (state g.S.Store c.args.self.now.conn) tables → Kept tables → found.items ≡ map change_columns (prices_for tables c.args.serial.now))) ok (c.find_prices.ensures.found clean) in
    if_ok c.prices_found.result (λ list said tables tells kept. changes_decoded (prices_for tables c.args.serial.now) list.items (said ∙ ap (map change_said) (c.as_slice.ensures.value ∙ shown tables tells kept))) c.prices_found.ensures.said
