use Rattle.sqlite.specs.Held.{state}
use Rattle.shop_tables.proofs.Effects.{great_is}
use Rattle.shop_tables.proofs.Committing.{on_ok}
use Rattle.shop_tables.proofs.Staying.{survives_as}
use Rattle.shop_tables.proofs.writing.add_device.Goals as goal

pub returns-else-row-eq-LAST-clause-done : goal.returns-else-row-eq-LAST-clause-done
returns-else-row-eq-LAST-clause-done g c clean =
    on_ok c.add_raised.result (λ wrote tables tells kept asked. wrote tables tells kept (great_is c.args.row.now.limit asked.0.limit c.if-row-eq-LAST.false, asked.1)) (c.add_raised.ensures.done clean)

pub returns-else-row-eq-LAST-clause-whole : goal.returns-else-row-eq-LAST-clause-whole
returns-else-row-eq-LAST-clause-whole g c =
    survives_as (state g.S.Store c.args.conn.now) (state g.S.Store c.add_raised.new.conn) _ _
    (λ trees holds tables tells kept asked. holds tables tells kept (great_is c.args.row.now.limit asked.0.limit c.if-row-eq-LAST.false, asked.1)) c.add_raised.ensures.whole
