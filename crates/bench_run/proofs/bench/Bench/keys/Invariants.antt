use Rattle.std.proofs.Common.{◌≡◌, true, map, take, drop, Ok}
use Rattle.run_spec.specs.DeviceLines.{are_key_text, presses}
use Rattle.run_spec.specs.Run.{Act}
use Rattle.bench_run.specs.Bench.{DeviceDid}
use Rattle.bench_run.proofs.bench.Bench.keys.Given as goal

abbrev pub invariant-loop-byte : goal.invariant-loop-byte
invariant-loop-byte g l = record {
  rest : are_key_text (drop l.byte-index l.text) ≡ true;
  did : DeviceDid g.M.Mixer.next (map Act (presses (take l.byte-index l.text))) (Ok tt) l.fn.self (g.F.Flash.view l.fn.flash) (g.K.Sink.view l.fn.sink)
      l.self (g.F.Flash.view l.flash) (g.K.Sink.view l.sink);
}
