use Rattle.std.proofs.Common.{ℕ, List, [], ◌∷◌, ◌++◌, Ok, Err, ap, subst}
use Rattle.std.specs.List.{flat_map}
use Rattle.loan_ledger.specs.Audit.{findings_of}
use Rattle.loan_ledger.specs.AuditText.{wrong_line}
use Rattle.line_output.specs.Written.{Wrote}
use Rattle.paygo_cli.proofs.Pieces.{findings_written, findings_cut}
use Rattle.paygo_cli.proofs.auditing.write_findings.Goals as goal

pub returns-in-Ok-clause-wrote : goal.returns-in-Ok-clause-wrote
returns-in-Ok-clause-wrote g c =
    let old = g.K.Sink.view c.args.sink.now in
    let mid = g.K.Sink.view c.write_wrong.new.sink in
    let new = g.K.Sink.view c.write_line.new.sink in
    let first = subst (λ (ids : List (List ℕ)). Wrote (flat_map wrong_line ids) (Ok tt) old mid) c.deref.ensures.value c.in-Ok.ensures.wrote in
    let line = ap (λ (l : List ℕ). l ++ 10 ∷ []) c.numbers_text.ensures.text in
    findings_written (findings_of c.args.audit.now) c.write_line.result old mid new first
    (subst (λ (l : List ℕ). Wrote l c.write_line.result mid new) line c.write_line.ensures.wrote)

pub returns-in-Err-clause-wrote : goal.returns-in-Err-clause-wrote
returns-in-Err-clause-wrote g c =
    let old = g.K.Sink.view c.args.sink.now in
    let new = g.K.Sink.view c.write_wrong.new.sink in
    findings_cut (findings_of c.args.audit.now) c.in-Err.fault old new
    (subst (λ (ids : List (List ℕ)). Wrote (flat_map wrong_line ids) (Err c.in-Err.fault) old new) c.deref.ensures.value c.in-Err.ensures.wrote)
