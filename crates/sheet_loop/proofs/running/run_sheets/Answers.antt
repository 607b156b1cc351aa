use Rattle.line_loop.specs.Handling.{desk}
use Rattle.sheet_loop.proofs.Looping.{runs_sheets}
use Rattle.sheet_loop.proofs.running.run_sheets.Goals as goal

pub returns-clause-sheets : goal.returns-clause-sheets
returns-clause-sheets g c =
    let first = desk c.new-agency.result (g.D.Keeper.view c.args.keeper.now) (g.F.Flash.view c.args.flash.now) (g.K.Sink.view c.args.sink.now) in
    let new = desk c.run_lines.new.handler (g.D.Keeper.view c.run_lines.new.keeper) (g.F.Flash.view c.run_lines.new.flash) (g.K.Sink.view c.run_lines.new.sink) in
    runs_sheets g.M.Mixer.next (λ agency. agency.book) c.run_lines.result (g.S.Source.view c.args.source.now) (g.S.Source.view c.run_lines.new.source) first new
    c.new-agency.ensures c.run_lines.ensures.loops
