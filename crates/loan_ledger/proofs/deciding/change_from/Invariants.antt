use Rattle.std.proofs.Common.{◌≡◌, drop}
use Rattle.std.specs.Prelude.{find}
use Rattle.ledger_spec.specs.Tables.{has_from}
use Rattle.loan_ledger.proofs.deciding.change_from.Given as goal

abbrev pub invariant-loop-change : goal.invariant-loop-change
invariant-loop-change l = find (has_from l.from) (drop l.change-index l.changes) ≡ find (has_from l.from) l.changes
