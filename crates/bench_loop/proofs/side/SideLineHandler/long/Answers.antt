use Rattle.bench_loop.proofs.Longs.{long_done}
use Rattle.bench_loop.proofs.side.SideLineHandler.long.Goals as goal

pub returns-clause-handles : goal.returns-clause-handles
returns-clause-handles g c = λ line keeper flash is long.
    rw (← c.self.view_is, c.long.ensures.same) (long_done g.M.Mixer.next c.args.size c.long.result (g.K.Sink.view c.args.sink.now) (g.K.Sink.view c.long.new.sink)
    c.long.ensures.works c.self.inside.mode c.self.inside.bench line is long keeper flash)
