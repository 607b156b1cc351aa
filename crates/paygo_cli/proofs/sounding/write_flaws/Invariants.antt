use Rattle.std.proofs.Common.{◌≡◌, ◌++◌, take}
use Rattle.std.specs.List.{flat_map}
use Rattle.table_flaws.specs.FlawText.{flaw_line}
use Rattle.paygo_cli.proofs.sounding.write_flaws.Given as goal

abbrev pub invariant-loop-flaw : goal.invariant-loop-flaw
invariant-loop-flaw g l = record {
  written : (g.K.Sink.view l.sink).written ≡ (g.K.Sink.view l.fn.sink).written ++ flat_map flaw_line (take l.flaw-index l.flaws);
  faults : (g.K.Sink.view l.sink).faults ≡ (g.K.Sink.view l.fn.sink).faults;
}
