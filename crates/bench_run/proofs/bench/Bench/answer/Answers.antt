use Rattle.bench_run.proofs.Answering.{told}
use Rattle.bench_run.proofs.bench.Bench.answer.Goals as goal

pub returns : goal.returns
returns g c = record {
  holds = c.event-reply.ensures.holds;
  plan = c.event-reply.ensures.plan;
  cause = c.write_reply.ensures.cause;
  works = told g.M.Mixer.next c.args.event c.event-reply.result c.write_reply.result c.args.self.now c.event-reply.new.self
      (g.F.Flash.view c.args.flash.now) (g.F.Flash.view c.event-reply.new.flash) (g.K.Sink.view c.args.sink.now) (g.K.Sink.view c.write_reply.new.sink)
      c.requires.event c.event-reply.ensures.step c.event-reply.ensures.calls c.event-reply.ensures.memory c.event-reply.ensures.faults c.event-reply.ensures.plan c.event-reply.ensures.down c.write_reply.ensures.wrote;
}
