use Rattle.std.proofs.Common.{◌≡◌, drop, max}
use Rattle.sync_advice.specs.Advice.{last_count}
use Rattle.sync_advice.proofs.advice.last_count.Given as goal

abbrev pub invariant-loop-order : goal.invariant-loop-order
invariant-loop-order l = max l.last (last_count (drop l.order-index l.orders)) ≡ last_count l.orders
