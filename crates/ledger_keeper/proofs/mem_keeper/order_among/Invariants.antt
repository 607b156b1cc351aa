use Rattle.std.proofs.Common.{◌≡◌, drop}
use Rattle.ledger_spec.specs.Tables.{order_in}
use Rattle.ledger_keeper.proofs.mem_keeper.order_among.Given as goal

abbrev pub invariant-loop-order : goal.invariant-loop-order
invariant-loop-order l = order_in (drop l.order-index l.orders) l.id ≡ order_in l.orders l.id
