use Rattle.ledger_spec.proofs.IssueLemmas.{picked_above, picked_within}
use Rattle.loan_ledger.proofs.issuing.chosen_for.Goals as goal

pub returns-in-Ok-clause-above : goal.returns-in-Ok-clause-above
returns-in-Ok-clause-above g c = picked_above c.args.price c.args.row.now c.args.ask c.args.issue.now (g.M.Mixer.next c.args.issue.now.row.key) c.args.issue.now.row.start c.in-Ok.chosen.count c.requires.price c.requires.row c.requires.ask c.requires.issue c.in-Ok.ensures.count

pub returns-in-Ok-clause-within : goal.returns-in-Ok-clause-within
returns-in-Ok-clause-within g c = picked_within c.args.price c.args.row.now c.args.ask c.args.issue.now (g.M.Mixer.next c.args.issue.now.row.key) c.args.issue.now.row.start c.in-Ok.chosen.count c.requires.price c.requires.row c.requires.ask c.requires.issue c.in-Ok.ensures.count
