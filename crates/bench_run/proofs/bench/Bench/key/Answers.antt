use Rattle.std.proofs.Common.{List, refl, subst, sym}
use Rattle.paygo_spec.proofs.Plans.{plan_stays}
use Rattle.run_spec.specs.Run.{Step}
use Rattle.bench_run.specs.Bench.{DeviceDid}
use Rattle.bench_run.proofs.Answering.{pressed_nothing, pressed_one}
use Rattle.bench_run.proofs.bench.Bench.key.Goals as goal

pub returns-then-key-eq32 : goal.returns-then-key-eq32
returns-then-key-eq32 g c =
    let flash = g.F.Flash.view c.args.flash.now in
    record {
      holds = c.requires.holds;
      plan = plan_stays flash flash refl refl;
      cause = refl;
      works = pressed_nothing g.M.Mixer.next c.args.key c.args.self.now flash (g.K.Sink.view c.args.sink.now) c.if-key-eq32.true;
    }

pub returns : goal.returns
returns g c =
    subst (λ (steps : List Step). DeviceDid g.M.Mixer.next steps c.answer.result c.args.self.now (g.F.Flash.view c.args.flash.now) (g.K.Sink.view c.args.sink.now)
    c.answer.new.self (g.F.Flash.view c.answer.new.flash) (g.K.Sink.view c.answer.new.sink)) (sym (pressed_one c.args.key c.if-key-eq32.false)) c.answer.ensures
