use Rattle.std.proofs.Common.{sym, ◌∙◌}
use Rattle.std.proofs.lemmas.Bool.{both_ways}
use Rattle.ledger_keeper.proofs.Rising.{orders_asked, asked_orders}
use Rattle.ledger_keeper.proofs.answers.are_orders_of.Goals as goal

pub returns-then-are_all_of : goal.returns-then-are_all_of
returns-then-are_all_of c = rw c.do_orders_rise.ensures (λ h. (orders_asked c.args.serial.now c.args.orders.now (sym c.are_all_of.ensures ∙ c.if-are_all_of.true), h), λ p. p.1)

pub returns-else-are_all_of : goal.returns-else-are_all_of
returns-else-are_all_of c = (λ h. absurd (both_ways c.are_all_of.result c.if-are_all_of.false h), λ p. c.are_all_of.ensures ∙ asked_orders c.args.serial.now c.args.orders.now p.0)
