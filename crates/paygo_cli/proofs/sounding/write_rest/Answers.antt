use Rattle.std.proofs.Common.{ℕ, List, [], ◌∷◌, ◌++◌, length, Ok, Err, ap, subst}
use Rattle.std.specs.List.{flat_map}
use Rattle.line_output.specs.Written.{Wrote}
use Rattle.table_flaws.specs.declared.findings.Twins.{Twins}
use Rattle.table_flaws.specs.FlawText.{twins_line, numbers_line}
use Rattle.paygo_cli.proofs.Pieces.{behind, cut_short}
use Rattle.paygo_cli.proofs.sounding.write_rest.Goals as goal

pub returns-in-Ok-clause-wrote : goal.returns-in-Ok-clause-wrote
returns-in-Ok-clause-wrote g c =
    let old = g.K.Sink.view c.args.sink.now in
    let mid = g.K.Sink.view c.write_twins.new.sink in
    let new = g.K.Sink.view c.write_line.new.sink in
    let found = c.args.findings.now in
    let first = subst (λ (pairs : List Twins). Wrote (flat_map twins_line pairs) (Ok tt) old mid) c.deref.ensures.value c.in-Ok.ensures.wrote in
    let line = ap (λ (l : List ℕ). l ++ 10 ∷ []) c.numbers_text.ensures.text in
    behind (flat_map twins_line found.twins.items) (numbers_line found.rows found.orders (length found.flaws.items) (length found.twins.items)) c.write_line.result old mid new first
    (subst (λ (l : List ℕ). Wrote l c.write_line.result mid new) line c.write_line.ensures.wrote)

pub returns-in-Err-clause-wrote : goal.returns-in-Err-clause-wrote
returns-in-Err-clause-wrote g c =
    let old = g.K.Sink.view c.args.sink.now in
    let new = g.K.Sink.view c.write_twins.new.sink in
    let found = c.args.findings.now in
    cut_short (flat_map twins_line found.twins.items) (numbers_line found.rows found.orders (length found.flaws.items) (length found.twins.items)) c.in-Err.fault old new
    (subst (λ (pairs : List Twins). Wrote (flat_map twins_line pairs) (Err c.in-Err.fault) old new) c.deref.ensures.value c.in-Err.ensures.wrote)
