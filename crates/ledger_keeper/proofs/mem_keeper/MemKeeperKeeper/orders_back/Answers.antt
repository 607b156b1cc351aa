use Rattle.std.proofs.Common.{◌≡◌, ◌∙◌, ap}
use Rattle.std.specs.Prelude.{filter}
use Rattle.std.proofs.lemmas.List.Elements.{All-same, All-from_recursion}
use Rattle.ledger_spec.specs.declared.Order.{Order}
use Rattle.ledger_spec.specs.Tables.{OrderIsInRange}
use Rattle.ledger_spec.specs.Sorted.{order_before, is_for}
use Rattle.ledger_spec.proofs.SortedLemmas.{all_filtered, orders_in_range}
use Rattle.ledger_keeper.proofs.Rising.{told_orders_back_asked}
use Rattle.ledger_keeper.proofs.mem_keeper.MemKeeperKeeper.orders_back.Goals as goal

pub returns-in-Some-clause-in_range : goal.returns-in-Some-clause-in_range
returns-in-Some-clause-in_range c = All-same OrderIsInRange c.in-Some.list.items (filter (is_for c.args.serial.now) c.args.self.now.orders.items)
    (c.in-Some.ensures ∙ ap (λ orders. filter (is_for c.args.serial.now) orders) c.deref.ensures.value)
    (All-from_recursion OrderIsInRange (filter (is_for c.args.serial.now) c.args.self.now.orders.items)
    (all_filtered order_before OrderIsInRange (is_for c.args.serial.now) c.args.self.now.orders.items (orders_in_range c.args.self.now.rows.items c.args.self.now.orders.items c.args.self.now.kept.orders)))

pub returns-in-Some-clause-asked : goal.returns-in-Some-clause-asked
returns-in-Some-clause-asked c = All-same (λ (o : Order). o.serial ≡ c.args.serial.now) c.in-Some.list.items (filter (is_for c.args.serial.now) c.args.self.now.orders.items)
    (c.in-Some.ensures ∙ ap (λ orders. filter (is_for c.args.serial.now) orders) c.deref.ensures.value)
    (told_orders_back_asked c.args.serial.now c.args.self.now.orders.items)
