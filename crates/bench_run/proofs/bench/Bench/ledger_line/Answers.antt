use Rattle.std.proofs.Common.{◌≡◌, ◌≢◌, [], ◌∷◌, List, Ok, Err, sym, subst, ap, rules}
use Rattle.std.specs.Prelude.{codes}
use Rattle.ledger_spec.specs.declared.TextFault.TheVariants as text_fault
use Rattle.ledger_spec.specs.AnswerText.{text_of_fault}
use Rattle.run_spec.specs.declared.Mode.TheVariants as mode
use Rattle.run_spec.specs.Run.{Step, Do, Say}
use Rattle.run_spec.specs.Meaning.{steps_of_ledger}
use Rattle.line_loop.specs.Handling.{of_line}
use Rattle.bench_run.specs.Bench.{desk, Works}
use Rattle.bench_run.proofs.Answering.{said, unread, steps_read, read_ok, read_fault}
use Rattle.bench_run.proofs.bench.Bench.ledger_line.Goals as goal

pub returns-then-eq-clause-works : goal.returns-then-eq-clause-works
returns-then-eq-clause-works g c = λ flash.
    let keeper = g.D.Keeper.view c.args.keeper.now in
    let before = g.K.Sink.view c.args.sink.now in
    let after = g.K.Sink.view c.write_text.new.sink in
    let is : c.args.mode ≡ mode.Device = search rules in
    let steps : steps_of_ledger c.args.mode c.args.text.now ≡ Say (codes "no ledger here") ∷ [] = ap (λ m. steps_of_ledger m c.args.text.now) is in
    rw c.as_line_fault.ensures (subst (λ (steps : List Step). Works g.M.Mixer.next c.args.mode steps (of_line c.write_text.result) (desk c.args.self.now keeper flash before) (desk c.args.self.now keeper flash after)) (sym steps)
    (said g.M.Mixer.next (codes "no ledger here") c.write_text.result before after c.write_text.ensures.wrote c.args.mode c.args.self.now keeper flash))

pub returns-in-Ok-clause-works : goal.returns-in-Ok-clause-works
returns-in-Ok-clause-works g c = λ flash.
    let other : c.args.mode ≢ mode.Device = search rules in
    let steps : steps_of_ledger c.args.mode c.args.text.now ≡ Do c.in-Ok.command ∷ [] = steps_read c.args.mode c.args.text.now (Ok c.in-Ok.command) other (read_ok c.args.text.now c.in-Ok.command c.in-Ok.ensures.value) in
    subst (λ (steps : List Step). Works g.M.Mixer.next c.args.mode steps c.do_command.result (desk c.args.self.now (g.D.Keeper.view c.args.keeper.now) flash (g.K.Sink.view c.args.sink.now))
    (desk c.do_command.new.self (g.D.Keeper.view c.do_command.new.keeper) flash (g.K.Sink.view c.do_command.new.sink))) (sym steps) (c.do_command.ensures.works flash)

pub returns-else-eq-2-clause-works : goal.returns-else-eq-2-clause-works
returns-else-eq-2-clause-works g c = λ flash.
    let other : c.in-Err.fault ≢ text_fault.Memory = search rules in
    let keeper = g.D.Keeper.view c.args.keeper.now in
    let before = g.K.Sink.view c.args.sink.now in
    let after = g.K.Sink.view c.write_fault.new.sink in
    let uses : c.args.mode ≢ mode.Device = search rules in
    let text = text_of_fault c.in-Err.fault in
    let steps : steps_of_ledger c.args.mode c.args.text.now ≡ Say text ∷ [] = steps_read c.args.mode c.args.text.now (Err c.in-Err.fault) uses (read_fault c.args.text.now c.in-Err.fault other c.in-Err.ensures.value) in
    rw c.as_line_fault-in-Err.ensures (subst (λ (steps : List Step). Works g.M.Mixer.next c.args.mode steps (of_line c.write_fault.result) (desk c.args.self.now keeper flash before) (desk c.args.self.now keeper flash after)) (sym steps)
    (said g.M.Mixer.next text c.write_fault.result before after c.write_fault.ensures.wrote c.args.mode c.args.self.now keeper flash))

pub returns-then-eq-2-clause-works : goal.returns-then-eq-2-clause-works
returns-then-eq-2-clause-works g c = λ flash.
    unread g.M.Mixer.next c.args.mode (steps_of_ledger c.args.mode c.args.text.now) (desk c.args.self.now (g.D.Keeper.view c.args.keeper.now) flash (g.K.Sink.view c.args.sink.now))
