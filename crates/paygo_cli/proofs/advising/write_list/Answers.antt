use Rattle.std.proofs.Common.{ℕ, List, [], ◌∷◌, ◌++◌, Ok, Err, ap, subst}
use Rattle.line_output.specs.Written.{Wrote}
use Rattle.paygo_cli.proofs.Advices.{list_written, list_cut}
use Rattle.paygo_cli.proofs.advising.write_list.Goals as goal

pub returns-in-Ok-clause-wrote : goal.returns-in-Ok-clause-wrote
returns-in-Ok-clause-wrote g c =
    let old = g.K.Sink.view c.args.sink.now in
    let mid = g.K.Sink.view c.write_line.new.sink in
    let new = g.K.Sink.view c.write_orders.new.sink in
    let line = ap (λ (l : List ℕ). l ++ 10 ∷ []) c.counted.ensures.text in
    list_written c.args.form c.args.orders.now c.write_orders.result old mid new
    (subst (λ (l : List ℕ). Wrote l (Ok tt) old mid) line c.in-Ok.ensures.wrote) c.write_orders.ensures.wrote

pub returns-in-Err-clause-wrote : goal.returns-in-Err-clause-wrote
returns-in-Err-clause-wrote g c =
    let old = g.K.Sink.view c.args.sink.now in
    let new = g.K.Sink.view c.write_line.new.sink in
    let line = ap (λ (l : List ℕ). l ++ 10 ∷ []) c.counted.ensures.text in
    list_cut c.args.form c.args.orders.now c.in-Err.fault old new
    (subst (λ (l : List ℕ). Wrote l (Err c.in-Err.fault) old new) line c.in-Err.ensures.wrote)
