-- The tables of a keeper that never fails.
use Rattle.ledger_spec.specs.Tables.{Tables}
use Rattle.log_check.specs.declared.sure_keeper.SureKeeper.{SureKeeper}

abbrev pub tables_of : SureKeeper → Tables
tables_of sure =
    record { rows = sure.keeper.rows.items; orders = sure.keeper.orders.items; changes = sure.keeper.changes.items }
