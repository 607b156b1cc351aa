use Rattle.std.proofs.Common.{[], ◌∷◌, sym, subst}
use Rattle.run_spec.specs.Run.{Do}
use Rattle.device_core.specs.declared.device.Device.{Device}
use Rattle.line_loop.specs.declared.handler.LineFault.TheVariants as fault
use Rattle.std.specs.Prelude.{Err}
use Rattle.line_loop.specs.Handling.{of_line}
use Rattle.bench_run.specs.Bench.{desk, Works}
use Rattle.bench_run.proofs.Answering.{served, failed, refused, uses_ledger}
use Rattle.bench_run.proofs.bench.Bench.do_command.Goals as goal

pub returns-in-Ok-clause-works : goal.returns-in-Ok-clause-works
returns-in-Ok-clause-works g c = λ flash.
    let was = g.D.Keeper.view c.args.keeper.now in
    let now = g.D.Keeper.view c.command.new.keeper in
    let before = g.K.Sink.view c.args.sink.now in
    let after = g.K.Sink.view c.write_answer.new.sink in
    rw c.as_line_fault.ensures (subst (λ (d : Device). Works g.M.Mixer.next c.args.mode (Do c.args.command.now ∷ []) (of_line c.write_answer.result) (desk c.args.self.now was flash before) (desk d now flash after)) (sym c.in-Ok.ensures.same)
    (served g.M.Mixer.next c.args.mode c.args.command.now c.in-Ok.answer c.write_answer.result c.args.self.now was now flash before after
    c.requires.command (uses_ledger c.args.mode c.requires.mode) c.in-Ok.ensures.applied c.write_answer.ensures.wrote))

pub returns-in-Err-Keeper-clause-works : goal.returns-in-Err-Keeper-clause-works
returns-in-Err-Keeper-clause-works g c = λ flash.
    let was = g.D.Keeper.view c.args.keeper.now in
    let now = g.D.Keeper.view c.command.new.keeper in
    let sink = g.K.Sink.view c.args.sink.now in
    subst (λ (d : Device). Works g.M.Mixer.next c.args.mode (Do c.args.command.now ∷ []) (Err fault.Keep) (desk c.args.self.now was flash sink) (desk d now flash sink)) (sym c.command.ensures.same)
    (failed g.M.Mixer.next c.args.mode c.args.command.now c.args.self.now was now flash sink c.requires.command (uses_ledger c.args.mode c.requires.mode) (rw c.in-Err-Keeper.field-0-is at c.in-Err-Keeper.ensures.applied))

pub returns-in-Err-Memory-clause-works : goal.returns-in-Err-Memory-clause-works
returns-in-Err-Memory-clause-works g c = λ flash.
    let was = g.D.Keeper.view c.args.keeper.now in
    let now = g.D.Keeper.view c.command.new.keeper in
    let sink = g.K.Sink.view c.args.sink.now in
    subst (λ (d : Device). Works g.M.Mixer.next c.args.mode (Do c.args.command.now ∷ []) (Err fault.Memory) (desk c.args.self.now was flash sink) (desk d now flash sink)) (sym c.command.ensures.same)
    (refused g.M.Mixer.next c.args.mode c.args.command.now c.args.self.now was now flash sink (rw c.in-Err-Memory.field-0-is at c.in-Err-Memory.ensures.applied))
