use Rattle.std.proofs.Common.{sym, ap, ◌∙◌}
use Rattle.ledger_spec.specs.Tables.{row_in, order_in}
use Rattle.ledger_spec.proofs.KeptLemmas.{order_kept, kept_has_row}
use Rattle.ledger_keeper.proofs.Rising.{found_id}
use Rattle.ledger_keeper.proofs.mem_keeper.MemKeeperKeeper.order.Goals as goal

pub returns-in_default-row_among-clause-found : goal.returns-in_default-row_among-clause-found
returns-in_default-row_among-clause-found c = absurd (kept_has_row _ c.args.id.now c.in-Some.order c.args.self.now.kept
    (ap (λ orders. order_in orders c.args.id.now) (sym c.deref.ensures.value) ∙ sym c.order_among.ensures ∙ c.in-Some.is)
    (ap (λ rows. row_in rows c.in-Some.order.serial) (sym c.deref-2.ensures.value) ∙ sym c.row_among.ensures ∙ c.in_default-row_among.is))

pub returns-clause-in_range : goal.returns-clause-in_range
returns-clause-in_range c = (order_kept c.args.self.now.rows.items c.args.self.now.orders.items c.args.id.now c.in-Some.order c.args.self.now.kept.orders
    (ap (λ orders. order_in orders c.args.id.now) (sym c.deref.ensures.value) ∙ sym c.order_among.ensures ∙ c.in-Some.is)).0

pub returns-clause-asked : goal.returns-clause-asked
returns-clause-asked c = found_id c.args.self.now.orders.items c.args.id.now c.in-Some.order
    (ap (λ orders. order_in orders c.args.id.now) (sym c.deref.ensures.value) ∙ sym c.order_among.ensures ∙ c.in-Some.is)
