use Rattle.std.proofs.Common.{◌≡◌, drop}
use Rattle.ledger_spec.specs.Tables.{row_in}
use Rattle.ledger_keeper.proofs.mem_keeper.row_among.Given as goal

abbrev pub invariant-loop-row : goal.invariant-loop-row
invariant-loop-row l = row_in (drop l.row-index l.rows) l.serial ≡ row_in l.rows l.serial
