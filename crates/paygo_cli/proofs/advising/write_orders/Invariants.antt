use Rattle.std.proofs.Common.{◌≡◌, ◌++◌, take}
use Rattle.std.specs.List.{flat_map}
use Rattle.paygo_cli.specs.Advised.{order_line}
use Rattle.paygo_cli.proofs.advising.write_orders.Given as goal

abbrev pub invariant-loop-order : goal.invariant-loop-order
invariant-loop-order g l = record {
  written : (g.K.Sink.view l.sink).written ≡ (g.K.Sink.view l.fn.sink).written ++ flat_map (order_line l.form) (take l.order-index l.orders);
  faults : (g.K.Sink.view l.sink).faults ≡ (g.K.Sink.view l.fn.sink).faults;
}
