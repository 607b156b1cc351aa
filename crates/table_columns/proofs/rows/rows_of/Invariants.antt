use Rattle.std.proofs.Common.{◌≡◌, map, take}
use Rattle.std.specs.Prelude.{All, Some}
use Rattle.ledger_spec.specs.Tables.{RowIsInRange}
use Rattle.table_columns.specs.Said.{row_said}
use Rattle.table_columns.proofs.rows.rows_of.Given as goal

-- What was read so far is what its columns say, and in range.
abbrev pub invariant-loop-columns : goal.invariant-loop-columns
invariant-loop-columns l = record {
  said : map Some l.rows.items ≡ map (row_said 0) (take l.columns-index l.all);
  in_range : All RowIsInRange l.rows.items;
}
