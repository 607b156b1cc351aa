use Rattle.std.proofs.Common.{◌≡◌, ◌++◌, take}
use Rattle.std.specs.List.{flat_map}
use Rattle.loan_ledger.specs.AuditText.{wrong_line}
use Rattle.paygo_cli.proofs.auditing.write_wrong.Given as goal

abbrev pub invariant-loop-id : goal.invariant-loop-id
invariant-loop-id g l = record {
  written : (g.K.Sink.view l.sink).written ≡ (g.K.Sink.view l.fn.sink).written ++ flat_map wrong_line (take l.id-index l.wrong);
  faults : (g.K.Sink.view l.sink).faults ≡ (g.K.Sink.view l.fn.sink).faults;
}
