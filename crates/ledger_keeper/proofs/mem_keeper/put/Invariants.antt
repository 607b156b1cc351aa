use Rattle.std.proofs.Common.{◌≡◌, ◌++◌, take, drop, length}
use Rattle.ledger_spec.specs.Tables.{rows_with}
use Rattle.ledger_keeper.proofs.mem_keeper.put.Given as goal

abbrev pub invariant-loop-i : goal.invariant-loop-i
invariant-loop-i l = record {
  size : length l.rows.items ≡ length l.fn.rows.items;
  done : l.rows.items ≡ rows_with l.row (take l.i l.fn.rows.items) ++ drop l.i l.fn.rows.items;
}
