use Rattle.std.proofs.Common.{ℕ, List, [], ◌∷◌, ◌++◌, ap, subst}
use Rattle.line_output.specs.Written.{Wrote}
use Rattle.stuck_values.specs.Listing.{stuck_of_code}
use Rattle.paygo_cli.proofs.Lists.{values_written, values_cut}
use Rattle.paygo_cli.proofs.listing.write_values.Goals as goal

pub returns-in-Ok-clause-wrote : goal.returns-in-Ok-clause-wrote
returns-in-Ok-clause-wrote g c =
    let old = g.K.Sink.view c.args.sink.now in
    let mid = g.K.Sink.view c.write_stuck.new.sink in
    let new = g.K.Sink.view c.write_line.new.sink in
    let line = ap (λ (l : List ℕ). l ++ 10 ∷ []) c.count_text.ensures.text in
    values_written stuck_of_code c.args.list.now c.write_line.result old mid new c.in-Ok.ensures.wrote
    (subst (λ (l : List ℕ). Wrote l c.write_line.result mid new) line c.write_line.ensures.wrote)

pub returns-in-Err-clause-wrote : goal.returns-in-Err-clause-wrote
returns-in-Err-clause-wrote g c =
    values_cut stuck_of_code c.args.list.now c.in-Err.fault (g.K.Sink.view c.args.sink.now) (g.K.Sink.view c.write_stuck.new.sink) c.in-Err.ensures.wrote
