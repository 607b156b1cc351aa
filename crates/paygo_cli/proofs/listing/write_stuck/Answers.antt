use Rattle.paygo_cli.proofs.Lists.{stuck_cut}
use Rattle.paygo_cli.proofs.listing.write_stuck.Goals as goal

pub returns-in-Err-clause-wrote : goal.returns-in-Err-clause-wrote
returns-in-Err-clause-wrote g c =
    stuck_cut c.args.list.now c.loop-stuck.stuck-index _ c.stuck_text.result c.loop-stuck-test.true c.stuck_text.ensures.text
    c.in-Err.fault (g.K.Sink.view c.args.sink.now) (g.K.Sink.view c.loop-stuck.sink) (g.K.Sink.view c.write_line.new.sink)
    c.loop-stuck.invariant.written c.in-Err.ensures.wrote
