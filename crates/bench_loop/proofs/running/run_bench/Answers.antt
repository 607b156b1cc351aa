use Rattle.std.proofs.Common.{ap, ◌∙◌}
use Rattle.line_loop.specs.Handling.{desk}
use Rattle.bench_loop.proofs.Going.{told, unseen}
use Rattle.bench_loop.proofs.Looping.{not_ledger, says_nothing}
use Rattle.bench_loop.proofs.running.run_bench.Goals as goal

pub returns-clause-keeper : goal.returns-clause-keeper
returns-clause-keeper g c = λ is.
    let first = desk c.start-side.result (g.D.Keeper.view c.args.keeper.now) (g.F.Flash.view c.args.flash.now) (g.K.Sink.view c.args.sink.now) in
    let new = desk c.run_lines.new.handler (g.D.Keeper.view c.run_lines.new.keeper) (g.F.Flash.view c.run_lines.new.flash) (g.K.Sink.view c.run_lines.new.sink) in
    let takes = c.start-side.ensures.mode ∙ is in
    let none = not_ledger g.M.Mixer.next says_nothing c.run_lines.result (g.S.Source.view c.args.source.now) (g.S.Source.view c.run_lines.new.source) first new takes c.run_lines.ensures.loops in
    (c.run_lines.ensures.keeper takes, none.0, none.1)

pub returns-clause-run : goal.returns-clause-run
returns-clause-run g c =
    let first = desk c.start-side.result (g.D.Keeper.view c.args.keeper.now) (g.F.Flash.view c.args.flash.now) (g.K.Sink.view c.args.sink.now) in
    let new = desk c.run_lines.new.handler (g.D.Keeper.view c.run_lines.new.keeper) (g.F.Flash.view c.run_lines.new.flash) (g.K.Sink.view c.run_lines.new.sink) in
    told g.M.Mixer.next g.met.M.Mixer.below c.args.mode c.run_lines.result (g.S.Source.view c.args.source.now) (g.S.Source.view c.run_lines.new.source) first new
    c.start-side.ensures.mode (λ is. ap g.F.Flash.view (c.run_lines.ensures.flash (c.start-side.ensures.mode ∙ is))) c.run_lines.ensures.loops c.start-side.ensures.off c.start-side.ensures.pad

pub returns-clause-unseen : goal.returns-clause-unseen
returns-clause-unseen g c =
    let first = desk c.start-side.result (g.D.Keeper.view c.args.keeper.now) (g.F.Flash.view c.args.flash.now) (g.K.Sink.view c.args.sink.now) in
    let new = desk c.run_lines.new.handler (g.D.Keeper.view c.run_lines.new.keeper) (g.F.Flash.view c.run_lines.new.flash) (g.K.Sink.view c.run_lines.new.sink) in
    unseen g.M.Mixer.next g.met.M.Mixer.below c.args.mode c.run_lines.result (g.S.Source.view c.args.source.now) (g.S.Source.view c.run_lines.new.source) first new
    c.start-side.ensures.mode (λ is. ap g.F.Flash.view (c.run_lines.ensures.flash (c.start-side.ensures.mode ∙ is))) c.run_lines.ensures.loops c.start-side.ensures.off c.start-side.ensures.pad
