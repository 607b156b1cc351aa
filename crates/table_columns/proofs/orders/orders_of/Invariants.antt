use Rattle.std.proofs.Common.{◌≡◌, map, take}
use Rattle.std.specs.Prelude.{All, Some}
use Rattle.ledger_spec.specs.Tables.{OrderIsInRange}
use Rattle.table_columns.specs.Said.{order_said}
use Rattle.table_columns.proofs.orders.orders_of.Given as goal

-- What was read so far is what its columns say, and in range.
abbrev pub invariant-loop-columns : goal.invariant-loop-columns
invariant-loop-columns l = record {
  said : map Some l.orders.items ≡ map order_said (take l.columns-index l.all);
  in_range : All OrderIsInRange l.orders.items;
}
