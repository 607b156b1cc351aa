use Rattle.std.proofs.Common.{◌≡◌, ◌-◌, ◌≤◌, drop}
use Rattle.ledger_spec.specs.Sorted.{row_before}
use Rattle.ledger_spec.specs.Sorted.{rises}
use Rattle.ledger_keeper.proofs.answers.do_rows_rise.Given as goal

-- What is left, from the one before this on, decides.
abbrev pub invariant-loop-i : goal.invariant-loop-i
invariant-loop-i l = record {
  low : 1 ≤ l.i;
  left : rises row_before l.rows ≡ rises row_before (drop (l.i - 1) l.rows);
}
