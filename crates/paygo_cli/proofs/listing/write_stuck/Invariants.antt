use Rattle.std.proofs.Common.{◌≡◌, ◌++◌, take}
use Rattle.std.specs.List.{flat_map}
use Rattle.stuck_values.specs.Listing.{stuck_of_code}
use Rattle.paygo_cli.specs.Listed.{stuck_line}
use Rattle.paygo_cli.proofs.listing.write_stuck.Given as goal

abbrev pub invariant-loop-stuck : goal.invariant-loop-stuck
invariant-loop-stuck g l = record {
  written : (g.K.Sink.view l.sink).written ≡ (g.K.Sink.view l.fn.sink).written ++ flat_map (λ stuck. stuck_line (stuck_of_code stuck)) (take l.stuck-index l.list);
  faults : (g.K.Sink.view l.sink).faults ≡ (g.K.Sink.view l.fn.sink).faults;
}
