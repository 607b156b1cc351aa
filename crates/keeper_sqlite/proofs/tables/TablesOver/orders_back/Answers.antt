use Rattle.std.proofs.Common.{rules, ◌≡◌, map, Ok, IfOk, ap, subst, ◌∙◌}
use Rattle.sqlite.specs.Held.{state}
use Rattle.ledger_spec.specs.Tables.{Tables, Kept}
use Rattle.ledger_spec.specs.Replay.{orders_back}
use Rattle.table_columns.specs.Said.{order_said}
use Rattle.shop_tables.specs.Stored.{order_columns}
use Rattle.shop_tables.specs.Telling.{Tells}
use Rattle.shop_tables.proofs.Decoding.{orders_decoded}
use Rattle.shop_tables.proofs.Staying.{if_ok}
use Rattle.keeper_sqlite.proofs.tables.TablesOver.orders_back.Goals as goal

pub returns-clause-told : goal.returns-clause-told
returns-clause-told g c clean =
    let ok : c.find_orders_back.result ≡ Ok c.in_ok-found.found = search rules in
    let shown = subst (λ r. IfOk r (λ found. (tables : Tables) → Tells (state g.S.Store c.args.self.now.conn) tables → Kept tables → found.items ≡ map order_columns (orders_back tables c.args.serial.now))) ok (c.find_orders_back.ensures.found clean) in
    if_ok c.orders_back_found.result (λ list said tables tells kept. orders_decoded (orders_back tables c.args.serial.now) list.items (said ∙ ap (map order_said) (c.as_slice.ensures.value ∙ shown tables tells kept))) c.orders_back_found.ensures.said
