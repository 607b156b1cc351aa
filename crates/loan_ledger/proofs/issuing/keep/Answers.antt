use Rattle.ledger_spec.proofs.IssueLemmas.{issue_fits, row_fits}
use Rattle.loan_ledger.proofs.issuing.keep.Goals as goal

pub add_order-requires-clause-row : goal.add_order-requires-clause-row
add_order-requires-clause-row g c =
    rw c.row_with-kept.ensures (row_fits c.args.price c.args.row.now c.args.ask c.args.issue.now c.args.chosen.count c.requires.row c.requires.ask
    (issue_fits c.args.price c.requires.price c.args.row.now c.requires.row c.args.ask c.args.issue.now c.requires.ask c.requires.issue) c.requires.above c.requires.within)
