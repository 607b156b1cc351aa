use Rattle.std.proofs.Common.{ℕ, List, [], ◌∷◌, ◌++◌, ◌∙◌, ap, subst, sym}
use Rattle.run_spec.specs.declared.Status.{Status}
use Rattle.line_output.specs.Written.{Wrote}
use Rattle.paygo_cli.specs.Ends.{WritesFleet}
use Rattle.paygo_cli.proofs.Fleets.{text_is, line_written}
use Rattle.paygo_cli.proofs.simulating.run_simulation.Goals as goal

pub returns-in-Ok-clause-written : goal.returns-in-Ok-clause-written
returns-in-Ok-clause-written g c =
    let old = g.K.Sink.view c.args.sink.now in
    let new = g.K.Sink.view c.write_line.new.sink in
    let line = ap (λ (l : List ℕ). l ++ 10 ∷ []) c.fleet_text.ensures.text ∙ text_is c.args.devices c.args.days c.in-Ok.totals in
    let wrote = subst (λ (l : List ℕ). Wrote l c.write_line.result old new) line c.write_line.ensures.wrote in
    subst (λ (s : Status). WritesFleet g.M.Mixer.next c.args.seed c.args.devices c.args.days s old new) (sym c.written.ensures)
    (line_written g.M.Mixer.next c.args.seed c.args.devices c.args.days c.in-Ok.totals c.in-Ok.ensures c.write_line.result old new wrote)
