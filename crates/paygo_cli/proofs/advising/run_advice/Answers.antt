use Rattle.std.proofs.Common.{◌∙◌}
use Rattle.paygo_cli.proofs.Ending.{with_keeper}
use Rattle.paygo_cli.proofs.advising.run_advice.Goals as goal

pub returns-in-Ok-clause-causes : goal.returns-in-Ok-clause-causes
returns-in-Ok-clause-causes g c = λ source flash.
    with_keeper c.advise_device.result source (g.K.Sink.view c.args.sink.now) (g.K.Sink.view c.advise_device.new.sink) (g.D.Keeper.view c.args.keeper.now) (g.D.Keeper.view c.orders_of.new.self) flash
    (c.in-Ok.ensures.reads.counts ∙ c.in-Ok-Some.ensures.reads.counts)
    (c.advise_device.ensures.causes source (g.D.Keeper.view c.args.keeper.now) flash)
