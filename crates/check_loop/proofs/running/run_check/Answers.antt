use Rattle.line_loop.specs.Handling.{desk}
use Rattle.check_loop.proofs.Handing.{checks, not_keep}
use Rattle.check_loop.proofs.running.run_check.Goals as goal

pub returns-in-Ok-clause-usage : goal.returns-in-Ok-clause-usage
returns-in-Ok-clause-usage g c =
    let first = desk c.in-Ok.lines (g.D.Keeper.view c.args.keeper.now) (g.F.Flash.view c.args.flash.now) (g.K.Sink.view c.args.sink.now) in
    let new = desk c.run_lines.new.handler (g.D.Keeper.view c.run_lines.new.keeper) (g.F.Flash.view c.run_lines.new.flash) (g.K.Sink.view c.run_lines.new.sink) in (
      c.run_lines.ensures.usage,
      not_keep g.M.Mixer.next (λ lines. lines.check.progress) c.run_lines.result (g.S.Source.view c.args.source.now) (g.S.Source.view c.run_lines.new.source) first new
          c.in-Ok.ensures c.run_lines.ensures.loops,
    )

pub returns-in-Ok-clause-checked : goal.returns-in-Ok-clause-checked
returns-in-Ok-clause-checked g c =
    let first = desk c.in-Ok.lines (g.D.Keeper.view c.args.keeper.now) (g.F.Flash.view c.args.flash.now) (g.K.Sink.view c.args.sink.now) in
    let new = desk c.run_lines.new.handler (g.D.Keeper.view c.run_lines.new.keeper) (g.F.Flash.view c.run_lines.new.flash) (g.K.Sink.view c.run_lines.new.sink) in
    checks g.M.Mixer.next (λ lines. lines.check.progress) c.run_lines.result (g.S.Source.view c.args.source.now) (g.S.Source.view c.run_lines.new.source) first new
    c.in-Ok.ensures c.run_lines.ensures.loops
