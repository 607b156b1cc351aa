use Rattle.std.proofs.Common.{◌≡◌, map, subst}
use Rattle.sqlite.specs.Held.{state}
use Rattle.ledger_spec.specs.Tables.{prices_for}
use Rattle.shop_tables.specs.Stored.{change_columns, raised_columns}
use Rattle.shop_tables.specs.declared.statements.TheConstants.{PRICES}
use Rattle.shop_tables.proofs.Staying.{asks_still, asks_stays, asks_only, if_ok}
use Rattle.shop_tables.proofs.ListingStatements.{prices_plain}
use Rattle.shop_tables.proofs.ListingPrices.{prices_shown}
use Rattle.shop_tables.proofs.listing.find_prices.Goals as goal

pub returns-clause-found : goal.returns-clause-found
returns-clause-found g c clean =
    if_ok c.ask.result (λ found shown tables tells kept. subst (λ s. found.items ≡ map change_columns (prices_for tables s)) c.in-Some.ensures
    (prices_shown c.in-Some.name.now (state g.S.Store c.args.conn.now) (state g.S.Store c.ask.new.conn) found.items shown tables tells kept))
    (c.ask.ensures.ok clean)

pub returns-clause-answered : goal.returns-clause-answered
returns-clause-answered g c clean =
    asks_still (λ found. found.items) PRICES.now prices_plain (raised_columns c.in-Some.name.now) (state g.S.Store c.args.conn.now) (state g.S.Store c.ask.new.conn) c.ask.result (c.ask.ensures.ok clean)

pub returns-clause-refused : goal.returns-clause-refused
returns-clause-refused g c clean =
    asks_stays (λ found. found.items) PRICES.now prices_plain (raised_columns c.in-Some.name.now) (state g.S.Store c.args.conn.now) (state g.S.Store c.ask.new.conn) c.ask.result (c.ask.ensures.err clean)

pub returns-clause-nothing : goal.returns-clause-nothing
returns-clause-nothing g c =
    asks_only PRICES.now prices_plain (raised_columns c.in-Some.name.now) (state g.S.Store c.args.conn.now) (state g.S.Store c.ask.new.conn) c.ask.ensures.survives
