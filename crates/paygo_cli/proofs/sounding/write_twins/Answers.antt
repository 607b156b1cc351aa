use Rattle.std.proofs.Common.{◌≡◌, ℕ, List, [], ◌∷◌, ◌++◌, Err, ap, subst}
use Rattle.table_flaws.specs.FlawText.{twins_line}
use Rattle.line_output.specs.Written.{Wrote}
use Rattle.paygo_cli.proofs.Pieces.{cut_at}
use Rattle.paygo_cli.proofs.sounding.write_twins.Goals as goal

pub returns-in-Err-clause-wrote : goal.returns-in-Err-clause-wrote
returns-in-Err-clause-wrote g c =
    let old = g.K.Sink.view c.args.sink.now in
    let mid = g.K.Sink.view c.loop-pair.sink in
    let new = g.K.Sink.view c.write_line.new.sink in
    let item = c.pair-item.result in
    let line : c.twins_text.result ++ 10 ∷ [] ≡ twins_line item = ap (λ (l : List ℕ). l ++ 10 ∷ []) c.twins_text.ensures.text in
    let wrote = subst (λ (l : List ℕ). Wrote l (Err c.in-Err.fault) mid new) line c.in-Err.ensures.wrote in
    cut_at twins_line c.args.twins.now c.loop-pair.pair-index item c.loop-pair-test.true c.pair-item.is c.in-Err.fault old mid new c.loop-pair.invariant.written wrote
