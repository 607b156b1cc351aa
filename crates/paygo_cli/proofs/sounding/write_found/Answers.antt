use Rattle.std.proofs.Common.{List, Ok, Err, subst}
use Rattle.std.specs.List.{flat_map}
use Rattle.line_output.specs.Written.{Wrote}
use Rattle.table_flaws.specs.declared.flaw.Flaw.{Flaw}
use Rattle.table_flaws.specs.Found.{findings_of}
use Rattle.table_flaws.specs.FlawText.{flaw_line}
use Rattle.paygo_cli.proofs.Lists.{found_written, found_cut}
use Rattle.paygo_cli.proofs.sounding.write_found.Goals as goal

pub returns-in-Ok-clause-wrote : goal.returns-in-Ok-clause-wrote
returns-in-Ok-clause-wrote g c =
    let old = g.K.Sink.view c.args.sink.now in
    let mid = g.K.Sink.view c.write_flaws.new.sink in
    let new = g.K.Sink.view c.write_rest.new.sink in
    let first = subst (λ (flaws : List Flaw). Wrote (flat_map flaw_line flaws) (Ok tt) old mid) c.deref.ensures.value c.in-Ok.ensures.wrote in
    found_written (findings_of c.args.findings.now) c.write_rest.result old mid new first c.write_rest.ensures.wrote

pub returns-in-Err-clause-wrote : goal.returns-in-Err-clause-wrote
returns-in-Err-clause-wrote g c =
    let old = g.K.Sink.view c.args.sink.now in
    let new = g.K.Sink.view c.write_flaws.new.sink in
    found_cut (findings_of c.args.findings.now) c.in-Err.fault old new
    (subst (λ (flaws : List Flaw). Wrote (flat_map flaw_line flaws) (Err c.in-Err.fault) old new) c.deref.ensures.value c.in-Err.ensures.wrote)
