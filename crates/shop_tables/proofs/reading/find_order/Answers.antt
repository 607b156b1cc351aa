use Rattle.std.proofs.Common.{◌≡◌, None, Some, sym, subst}
use Rattle.sqlite.specs.Held.{state}
use Rattle.ledger_spec.specs.Tables.{order_of}
use Rattle.shop_tables.specs.Stored.{raised_columns}
use Rattle.shop_tables.specs.declared.statements.TheConstants.{ORDER}
use Rattle.shop_tables.proofs.JoiningStatement.{order_plain}
use Rattle.shop_tables.proofs.JoiningTold.{no_order_told, order_told}
use Rattle.shop_tables.proofs.Staying.{asks_still, asks_stays, asks_only, if_ok}
use Rattle.shop_tables.proofs.reading.find_order.Goals as goal

pub returns-clause-none : goal.returns-clause-none
returns-clause-none g c clean =
    if_ok c.ask.result (λ found shown tables tells none.
    no_order_told (state g.S.Store c.args.conn.now) (state g.S.Store c.ask.new.conn) c.in-Some.name.now tables found.items tells shown (subst (λ s. order_of tables s ≡ None) (sym c.in-Some.ensures) none))
    (c.ask.ensures.ok clean)

pub returns-clause-one : goal.returns-clause-one
returns-clause-one g c clean =
    if_ok c.ask.result (λ found shown tables tells kept it is row has.
    order_told (state g.S.Store c.args.conn.now) (state g.S.Store c.ask.new.conn) c.in-Some.name.now tables found.items tells shown kept it (subst (λ s. order_of tables s ≡ Some it) (sym c.in-Some.ensures) is) row has)
    (c.ask.ensures.ok clean)

pub returns-clause-answered : goal.returns-clause-answered
returns-clause-answered g c clean =
    asks_still (λ found. found.items) ORDER.now order_plain (raised_columns c.in-Some.name.now) (state g.S.Store c.args.conn.now) (state g.S.Store c.ask.new.conn) c.ask.result (c.ask.ensures.ok clean)

pub returns-clause-refused : goal.returns-clause-refused
returns-clause-refused g c clean =
    asks_stays (λ found. found.items) ORDER.now order_plain (raised_columns c.in-Some.name.now) (state g.S.Store c.args.conn.now) (state g.S.Store c.ask.new.conn) c.ask.result (c.ask.ensures.err clean)

pub returns-clause-nothing : goal.returns-clause-nothing
returns-clause-nothing g c =
    asks_only ORDER.now order_plain (raised_columns c.in-Some.name.now) (state g.S.Store c.args.conn.now) (state g.S.Store c.ask.new.conn) c.ask.ensures.survives
