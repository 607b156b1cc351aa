use Rattle.std.proofs.Common.{◌++◌}
use Rattle.std.specs.Prelude.{codes}
use Rattle.std.specs.Fmt.{decimal}
use Rattle.bench_run.proofs.Answering.{said}
use Rattle.bench_run.proofs.bench.Bench.long.Goals as goal

pub returns-clause-works : goal.returns-clause-works
returns-clause-works g c =
    said g.M.Mixer.next (codes "long " ++ decimal c.args.size) c.write_long.result (g.K.Sink.view c.args.sink.now) (g.K.Sink.view c.write_long.new.sink) c.write_long.ensures.wrote
