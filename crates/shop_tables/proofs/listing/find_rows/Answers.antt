use Rattle.std.proofs.Common.{rules, [], IfOk}
use Rattle.sqlite.specs.Held.{state}
use Rattle.sqlite.specs.State.{Shown}
use Rattle.shop_tables.specs.declared.statements.TheConstants.{DEVICES}
use Rattle.shop_tables.proofs.Staying.{asks_still, asks_stays, asks_only, if_ok}
use Rattle.shop_tables.proofs.ListingStatements.{devices_plain}
use Rattle.shop_tables.proofs.ListingRows.{rows_shown}
use Rattle.shop_tables.proofs.listing.find_rows.Goals as goal

pub returns-clause-found : goal.returns-clause-found
returns-clause-found g c clean =
    let old = state g.S.Store c.args.conn.now in
    let new = state g.S.Store c.query_all.new.self in
    let shown : IfOk c.query_all.result (λ rows. Shown DEVICES.now [] old new rows.items) = search rules in
    if_ok c.query_all.result (λ found shown tables tells kept. rows_shown old new found.items shown tables tells kept) shown

pub returns-clause-answered : goal.returns-clause-answered
returns-clause-answered g c clean =
    asks_still (λ found. found.items) DEVICES.now devices_plain [] (state g.S.Store c.args.conn.now) (state g.S.Store c.query_all.new.self) c.query_all.result (c.query_all.ensures.ok clean)

pub returns-clause-refused : goal.returns-clause-refused
returns-clause-refused g c clean =
    asks_stays (λ found. found.items) DEVICES.now devices_plain [] (state g.S.Store c.args.conn.now) (state g.S.Store c.query_all.new.self) c.query_all.result (c.query_all.ensures.err clean)

pub returns-clause-nothing : goal.returns-clause-nothing
returns-clause-nothing g c =
    asks_only DEVICES.now devices_plain [] (state g.S.Store c.args.conn.now) (state g.S.Store c.query_all.new.self) c.query_all.ensures.survives
