use Rattle.std.proofs.Common.{◌≡◌, ◌-◌, ◌≤◌, drop}
use Rattle.ledger_spec.specs.Sorted.{order_before}
use Rattle.ledger_spec.specs.Sorted.{rises}
use Rattle.ledger_keeper.proofs.answers.do_orders_rise.Given as goal

-- What is left, from the one before this on, decides.
abbrev pub invariant-loop-i : goal.invariant-loop-i
invariant-loop-i l = record {
  low : 1 ≤ l.i;
  left : rises order_before l.orders ≡ rises order_before (drop (l.i - 1) l.orders);
}
