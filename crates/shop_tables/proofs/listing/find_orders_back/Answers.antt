use Rattle.std.proofs.Common.{◌≡◌, map, subst}
use Rattle.sqlite.specs.Held.{state}
use Rattle.ledger_spec.specs.Replay.{orders_back}
use Rattle.shop_tables.specs.Stored.{order_columns, raised_columns}
use Rattle.shop_tables.specs.declared.statements.TheConstants.{ORDERS_BACK}
use Rattle.shop_tables.proofs.Staying.{asks_still, asks_stays, asks_only, if_ok}
use Rattle.shop_tables.proofs.ListingStatements.{orders_back_plain}
use Rattle.shop_tables.proofs.ListingBack.{orders_back_shown}
use Rattle.shop_tables.proofs.listing.find_orders_back.Goals as goal

pub returns-clause-found : goal.returns-clause-found
returns-clause-found g c clean =
    if_ok c.ask.result (λ found shown tables tells kept. subst (λ s. found.items ≡ map order_columns (orders_back tables s)) c.in-Some.ensures
    (orders_back_shown c.in-Some.name.now (state g.S.Store c.args.conn.now) (state g.S.Store c.ask.new.conn) found.items shown tables tells kept))
    (c.ask.ensures.ok clean)

pub returns-clause-answered : goal.returns-clause-answered
returns-clause-answered g c clean =
    asks_still (λ found. found.items) ORDERS_BACK.now orders_back_plain (raised_columns c.in-Some.name.now) (state g.S.Store c.args.conn.now) (state g.S.Store c.ask.new.conn) c.ask.result (c.ask.ensures.ok clean)

pub returns-clause-refused : goal.returns-clause-refused
returns-clause-refused g c clean =
    asks_stays (λ found. found.items) ORDERS_BACK.now orders_back_plain (raised_columns c.in-Some.name.now) (state g.S.Store c.args.conn.now) (state g.S.Store c.ask.new.conn) c.ask.result (c.ask.ensures.err clean)

pub returns-clause-nothing : goal.returns-clause-nothing
returns-clause-nothing g c =
    asks_only ORDERS_BACK.now orders_back_plain (raised_columns c.in-Some.name.now) (state g.S.Store c.args.conn.now) (state g.S.Store c.ask.new.conn) c.ask.ensures.survives
