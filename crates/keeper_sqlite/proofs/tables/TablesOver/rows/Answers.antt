use Rattle.std.proofs.Common.{rules, ◌≡◌, map, Ok, IfOk, ap, subst, ◌∙◌}
use Rattle.sqlite.specs.Held.{state}
use Rattle.ledger_spec.specs.Tables.{Tables, Kept}
use Rattle.ledger_spec.specs.Sorted.{all_rows, row_before}
use Rattle.ledger_spec.proofs.SortedLemmas.{all_sorted}
use Rattle.table_columns.specs.Said.{row_said}
use Rattle.shop_tables.specs.Stored.{row_columns}
use Rattle.shop_tables.specs.Telling.{Tells}
use Rattle.shop_tables.proofs.Decoding.{HasLimit, have_limits, rows_decoded}
use Rattle.shop_tables.proofs.Staying.{if_ok}
use Rattle.keeper_sqlite.proofs.tables.TablesOver.rows.Goals as goal

pub returns-clause-told : goal.returns-clause-told
returns-clause-told g c clean =
    let ok : c.find_rows.result ≡ Ok c.in_ok-found.found = search rules in
    let shown = subst (λ r. IfOk r (λ found. (tables : Tables) → Tells (state g.S.Store c.args.self.now.conn) tables → Kept tables → found.items ≡ map row_columns (all_rows tables))) ok (c.find_rows.ensures.found clean) in
    if_ok c.rows_found.result (λ list said tables tells kept. rows_decoded (all_rows tables) list.items (all_sorted row_before HasLimit tables.rows (have_limits tables.rows kept.rows)) (said ∙ ap (map (row_said 0)) (c.as_slice.ensures.value ∙ shown tables tells kept))) c.rows_found.ensures.said
