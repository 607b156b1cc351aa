use Rattle.std.proofs.Common.{◌≡◌, ◌∙◌, ap}
use Rattle.std.specs.Prelude.{filter}
use Rattle.std.proofs.lemmas.List.Elements.{All-same}
use Rattle.ledger_spec.specs.declared.Order.{Order}
use Rattle.ledger_spec.specs.Tables.{OrderIsInRange}
use Rattle.ledger_spec.specs.Putting.{sorted_by}
use Rattle.ledger_spec.specs.Sorted.{order_before, is_for}
use Rattle.ledger_spec.proofs.SortedLemmas.{told_orders_in_range}
use Rattle.ledger_keeper.proofs.Rising.{told_orders_asked, told_orders_rise}
use Rattle.ledger_keeper.proofs.mem_keeper.MemKeeperKeeper.orders_of.Goals as goal

pub returns-in-Some-clause-in_range : goal.returns-in-Some-clause-in_range
returns-in-Some-clause-in_range c = All-same OrderIsInRange c.in-Some.list.items (sorted_by order_before (filter (is_for c.args.serial.now) c.args.self.now.orders.items))
    (c.in-Some.ensures ∙ ap (λ orders. sorted_by order_before (filter (is_for c.args.serial.now) orders)) c.deref.ensures.value)
    (told_orders_in_range order_before (is_for c.args.serial.now) c.args.self.now.rows.items c.args.self.now.orders.items c.args.self.now.kept.orders)

pub returns-in-Some-clause-asked : goal.returns-in-Some-clause-asked
returns-in-Some-clause-asked c = All-same (λ (o : Order). o.serial ≡ c.args.serial.now) c.in-Some.list.items (sorted_by order_before (filter (is_for c.args.serial.now) c.args.self.now.orders.items))
    (c.in-Some.ensures ∙ ap (λ orders. sorted_by order_before (filter (is_for c.args.serial.now) orders)) c.deref.ensures.value)
    (told_orders_asked c.args.serial.now c.args.self.now.orders.items)

pub returns-in-Some-clause-ordered : goal.returns-in-Some-clause-ordered
returns-in-Some-clause-ordered c = rw (c.in-Some.ensures, c.deref.ensures.value) (told_orders_rise c.args.serial.now c.args.self.now.rows.items c.args.self.now.orders.items c.args.self.now.kept.orders)
