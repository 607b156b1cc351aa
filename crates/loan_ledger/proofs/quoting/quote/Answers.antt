use Rattle.std.proofs.Common.{◌≡◌, Some, sym}
use Rattle.ledger_spec.specs.Tables.{row_of}
use Rattle.ledger_spec.proofs.Lookups.{row_found_again}
use Rattle.ledger_spec.proofs.AppliedLemmas.{if_told}
use Rattle.loan_ledger.proofs.quoting.quote.Goals as goal

-- the row that the keeper found is the row of its own serial
pub quote_row-requires-clause-kept : goal.quote_row-requires-clause-kept
quote_row-requires-clause-kept g c =
    let found = rw c.in-Ok-Some.field-0-is at c.in-Ok-Some.ensures.found in
    rw c.device.ensures.reads.tables (if_told (g.D.Keeper.view c.args.keeper.now).tables (λ t. Some c.in-Ok-Some.row ≡ row_of t c.args.serial.now) (λ t. row_of t c.in-Ok-Some.row.serial ≡ Some c.in-Ok-Some.row)
    (λ t is. row_found_again t.rows c.args.serial.now c.in-Ok-Some.row (sym is)) found)
