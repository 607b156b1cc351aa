use Rattle.std.proofs.Common.{sym, ◌∙◌}
use Rattle.std.proofs.lemmas.Bool.{both_ways}
use Rattle.ledger_keeper.proofs.Rising.{changes_asked, asked_changes}
use Rattle.ledger_keeper.proofs.answers.are_changes_of.Goals as goal

pub returns-then-are_changes_for : goal.returns-then-are_changes_for
returns-then-are_changes_for c = rw c.do_changes_rise.ensures (λ h. (changes_asked c.args.serial.now c.args.changes.now (sym c.are_changes_for.ensures ∙ c.if-are_changes_for.true), h), λ p. p.1)

pub returns-else-are_changes_for : goal.returns-else-are_changes_for
returns-else-are_changes_for c = (λ h. absurd (both_ways c.are_changes_for.result c.if-are_changes_for.false h), λ p. c.are_changes_for.ensures ∙ asked_changes c.args.serial.now c.args.changes.now p.0)
