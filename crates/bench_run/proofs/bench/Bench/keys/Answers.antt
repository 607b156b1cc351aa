use Rattle.bench_run.proofs.Pressing.{keys_behind, one_more, stopped_at, all_pressed, none_pressed}
use Rattle.bench_run.proofs.bench.Bench.keys.Goals as goal

pub loop-byte-init : goal.loop-byte-init
loop-byte-init g c = record { rest = c.requires.keys; did = none_pressed g.M.Mixer.next c.args.self.now (g.F.Flash.view c.args.flash.now) (g.K.Sink.view c.args.sink.now) c.requires.holds }

pub returns-in-Err : goal.returns-in-Err
returns-in-Err g c =
    stopped_at g.M.Mixer.next c.args.text.now c.loop-byte.byte-index c.args.self.now c.loop-byte.self c.key.new.self
    (g.F.Flash.view c.args.flash.now) (g.F.Flash.view c.loop-byte.flash) (g.F.Flash.view c.key.new.flash)
    (g.K.Sink.view c.args.sink.now) (g.K.Sink.view c.loop-byte.sink) (g.K.Sink.view c.key.new.sink)
    c.loop-byte-test.true c.loop-byte.invariant.did c.in-Err.fault c.in-Err.ensures

pub loop-byte-preserved : goal.loop-byte-preserved
loop-byte-preserved g c = record {
  rest = keys_behind c.args.text.now c.loop-byte.byte-index c.loop-byte-test.true c.loop-byte.invariant.rest;
  did = one_more g.M.Mixer.next c.args.text.now c.loop-byte.byte-index c.args.self.now c.loop-byte.self c.key.new.self
      (g.F.Flash.view c.args.flash.now) (g.F.Flash.view c.loop-byte.flash) (g.F.Flash.view c.key.new.flash)
      (g.K.Sink.view c.args.sink.now) (g.K.Sink.view c.loop-byte.sink) (g.K.Sink.view c.key.new.sink)
      c.loop-byte-test.true c.loop-byte.invariant.did c.in-Ok.ensures;
}

pub returns : goal.returns
returns g c =
    all_pressed g.M.Mixer.next c.args.text.now c.loop-byte.byte-index c.args.self.now c.loop-byte.self (g.F.Flash.view c.args.flash.now) (g.F.Flash.view c.loop-byte.flash)
    (g.K.Sink.view c.args.sink.now) (g.K.Sink.view c.loop-byte.sink) c.loop-byte-test.false c.loop-byte.invariant.did
