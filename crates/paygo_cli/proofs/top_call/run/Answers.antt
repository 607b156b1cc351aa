use Rattle.std.proofs.Common.{◌∙◌, subst}
use Rattle.run_spec.specs.declared.Mode.{Mode}
use Rattle.line_loop.specs.Outside.{outside}
use Rattle.bench_loop.specs.Runs.{RunsTold, RunsUnseen}
use Rattle.deal_runs.proofs.Chaining.{runs_on}
use Rattle.paygo_cli.proofs.Ending.{complete, same_mode}
use Rattle.paygo_cli.proofs.top_call.run.Goals as goal

pub returns-in-Some-Lines-clause-run : goal.returns-in-Some-Lines-clause-run
returns-in-Some-Lines-clause-run g c = λ mode is.
    let old = outside (g.S.Source.view c.args.source.now) (g.K.Sink.view c.args.sink.now) (g.D.Keeper.view c.args.keeper.now) (g.F.Flash.view c.args.flash.now) in
    let new = outside (g.S.Source.view c.run_bench.new.source) (g.K.Sink.view c.run_bench.new.sink) (g.D.Keeper.view c.run_bench.new.keeper) (g.F.Flash.view c.run_bench.new.flash) in
    subst (λ (m : Mode). RunsTold g.M.Mixer.next m c.run_bench.result old new) (same_mode c.in-Some-Lines.field-0 c.in-Some-Lines.mode mode c.in-Some-Lines.field-0-is (c.in-Some-Lines.ensures.work ∙ is)) c.run_bench.ensures.run

pub returns-in-Some-Lines-clause-unseen : goal.returns-in-Some-Lines-clause-unseen
returns-in-Some-Lines-clause-unseen g c = λ mode is.
    let old = outside (g.S.Source.view c.args.source.now) (g.K.Sink.view c.args.sink.now) (g.D.Keeper.view c.args.keeper.now) (g.F.Flash.view c.args.flash.now) in
    let new = outside (g.S.Source.view c.run_bench.new.source) (g.K.Sink.view c.run_bench.new.sink) (g.D.Keeper.view c.run_bench.new.keeper) (g.F.Flash.view c.run_bench.new.flash) in
    subst (λ (m : Mode). RunsUnseen g.M.Mixer.next m c.run_bench.result old new) (same_mode c.in-Some-Lines.field-0 c.in-Some-Lines.mode mode c.in-Some-Lines.field-0-is (c.in-Some-Lines.ensures.work ∙ is)) c.run_bench.ensures.unseen

pub returns-in-Some-Lines-clause-deal : goal.returns-in-Some-Lines-clause-deal
returns-in-Some-Lines-clause-deal g c = λ mode is.
    let old = outside (g.S.Source.view c.args.source.now) (g.K.Sink.view c.args.sink.now) (g.D.Keeper.view c.args.keeper.now) (g.F.Flash.view c.args.flash.now) in
    let new = outside (g.S.Source.view c.run_bench.new.source) (g.K.Sink.view c.run_bench.new.sink) (g.D.Keeper.view c.run_bench.new.keeper) (g.F.Flash.view c.run_bench.new.flash) in
    let told = subst (λ (m : Mode). RunsTold g.M.Mixer.next m c.run_bench.result old new) (same_mode c.in-Some-Lines.field-0 c.in-Some-Lines.mode mode c.in-Some-Lines.field-0-is (c.in-Some-Lines.ensures.work ∙ is)) c.run_bench.ensures.run in
    runs_on g.M.Mixer.next mode c.run_bench.result old new told

pub returns-in-Some-Audit-clause-complete : goal.returns-in-Some-Audit-clause-complete
returns-in-Some-Audit-clause-complete g c =
    let source = g.S.Source.view c.args.source.now in
    let flash = g.F.Flash.view c.args.flash.now in
    complete c.run_audit.result (outside source (g.K.Sink.view c.args.sink.now) (g.D.Keeper.view c.args.keeper.now) flash) (outside source (g.K.Sink.view c.run_audit.new.sink) (g.D.Keeper.view c.run_audit.new.keeper) flash)
    (c.run_audit.ensures.causes source flash)

pub returns-in-Some-Fleet-clause-complete : goal.returns-in-Some-Fleet-clause-complete
returns-in-Some-Fleet-clause-complete g c =
    let source = g.S.Source.view c.args.source.now in
    let keeper = g.D.Keeper.view c.args.keeper.now in
    let flash = g.F.Flash.view c.args.flash.now in
    complete c.run_simulation.result (outside source (g.K.Sink.view c.args.sink.now) keeper flash) (outside source (g.K.Sink.view c.run_simulation.new.sink) keeper flash)
    (c.run_simulation.ensures.causes source keeper flash)

pub returns-in-Some-Audit-clause-causes : goal.returns-in-Some-Audit-clause-causes
returns-in-Some-Audit-clause-causes g c = c.run_audit.ensures.causes (g.S.Source.view c.args.source.now) (g.F.Flash.view c.args.flash.now)

pub returns-in-Some-Fleet-clause-causes : goal.returns-in-Some-Fleet-clause-causes
returns-in-Some-Fleet-clause-causes g c =
    c.run_simulation.ensures.causes (g.S.Source.view c.args.source.now) (g.D.Keeper.view c.args.keeper.now) (g.F.Flash.view c.args.flash.now)

pub returns-in-Some-Advise-clause-complete : goal.returns-in-Some-Advise-clause-complete
returns-in-Some-Advise-clause-complete g c =
    let source = g.S.Source.view c.args.source.now in
    let flash = g.F.Flash.view c.args.flash.now in
    complete c.run_advice.result (outside source (g.K.Sink.view c.args.sink.now) (g.D.Keeper.view c.args.keeper.now) flash) (outside source (g.K.Sink.view c.run_advice.new.sink) (g.D.Keeper.view c.run_advice.new.keeper) flash)
    (c.run_advice.ensures.causes source flash)

pub returns-in-Some-Advise-clause-causes : goal.returns-in-Some-Advise-clause-causes
returns-in-Some-Advise-clause-causes g c = c.run_advice.ensures.causes (g.S.Source.view c.args.source.now) (g.F.Flash.view c.args.flash.now)

pub returns-in-Some-Sound-clause-complete : goal.returns-in-Some-Sound-clause-complete
returns-in-Some-Sound-clause-complete g c =
    let source = g.S.Source.view c.args.source.now in
    let flash = g.F.Flash.view c.args.flash.now in
    complete c.run_sound.result (outside source (g.K.Sink.view c.args.sink.now) (g.D.Keeper.view c.args.keeper.now) flash) (outside source (g.K.Sink.view c.run_sound.new.sink) (g.D.Keeper.view c.run_sound.new.keeper) flash)
    (c.run_sound.ensures.causes source flash)

pub returns-in-Some-Sound-clause-causes : goal.returns-in-Some-Sound-clause-causes
returns-in-Some-Sound-clause-causes g c = c.run_sound.ensures.causes (g.S.Source.view c.args.source.now) (g.F.Flash.view c.args.flash.now)

pub returns-in-Some-Values-clause-complete : goal.returns-in-Some-Values-clause-complete
returns-in-Some-Values-clause-complete g c =
    let source = g.S.Source.view c.args.source.now in
    let keeper = g.D.Keeper.view c.args.keeper.now in
    let flash = g.F.Flash.view c.args.flash.now in
    complete c.run_values.result (outside source (g.K.Sink.view c.args.sink.now) keeper flash) (outside source (g.K.Sink.view c.run_values.new.sink) keeper flash)
    (c.run_values.ensures.causes source keeper flash)

pub returns-in-Some-Values-clause-causes : goal.returns-in-Some-Values-clause-causes
returns-in-Some-Values-clause-causes g c =
    c.run_values.ensures.causes (g.S.Source.view c.args.source.now) (g.D.Keeper.view c.args.keeper.now) (g.F.Flash.view c.args.flash.now)
