use Rattle.std.proofs.Common.{◌≡◌, ℕ, List, [], ◌∷◌, ◌++◌, Err, ap, subst}
use Rattle.loan_ledger.specs.AuditText.{wrong_line}
use Rattle.line_output.specs.Written.{Wrote}
use Rattle.paygo_cli.proofs.Pieces.{cut_at}
use Rattle.paygo_cli.proofs.auditing.write_wrong.Goals as goal

pub returns-in-Err-clause-wrote : goal.returns-in-Err-clause-wrote
returns-in-Err-clause-wrote g c =
    let old = g.K.Sink.view c.args.sink.now in
    let mid = g.K.Sink.view c.loop-id.sink in
    let new = g.K.Sink.view c.write_line.new.sink in
    let id = c.id-item.result in
    let line : c.wrong_text.result ++ 10 ∷ [] ≡ wrong_line id = ap (λ (l : List ℕ). l ++ 10 ∷ []) c.wrong_text.ensures.text in
    let wrote = subst (λ (l : List ℕ). Wrote l (Err c.in-Err.fault) mid new) line c.in-Err.ensures.wrote in
    cut_at wrong_line c.args.wrong.now c.loop-id.id-index id c.loop-id-test.true c.id-item.is c.in-Err.fault old mid new c.loop-id.invariant.written wrote
