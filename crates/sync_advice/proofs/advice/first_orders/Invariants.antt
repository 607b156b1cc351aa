use Rattle.std.proofs.Common.{◌≡◌, ◌+◌, drop, length}
use Rattle.sync_advice.proofs.Placing.{ArePlaced}
use Rattle.sync_advice.proofs.advice.first_orders.Given as goal

abbrev pub invariant-loop-order : goal.invariant-loop-order
invariant-loop-order l = record {
  size : length l.firsts.items ≡ l.fn.last + 1;
  placed : ArePlaced l.orders l.firsts.items (drop l.order-index l.orders);
}
