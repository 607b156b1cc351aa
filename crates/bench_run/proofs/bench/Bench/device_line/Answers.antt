use Rattle.std.proofs.Common.{◌≡◌, ◌≢◌, [], ◌∷◌, List, sym, subst, ap, rules}
use Rattle.std.specs.Prelude.{codes}
use Rattle.run_spec.specs.declared.Mode.TheVariants as mode
use Rattle.run_spec.specs.Run.{Step, Say}
use Rattle.run_spec.specs.Meaning.{steps_of_device}
use Rattle.line_loop.specs.Handling.{of_line}
use Rattle.bench_run.specs.Bench.{desk, Works}
use Rattle.bench_run.proofs.Answering.{said, steps_asked, steps_unread, uses_device}
use Rattle.bench_run.proofs.bench.Bench.device_line.Goals as goal

pub returns-then-eq-clause-works : goal.returns-then-eq-clause-works
returns-then-eq-clause-works g c = λ keeper.
    let flash = g.F.Flash.view c.args.flash.now in
    let before = g.K.Sink.view c.args.sink.now in
    let after = g.K.Sink.view c.write_text.new.sink in
    let is : c.args.mode ≡ mode.Serve = search rules in
    let steps : steps_of_device c.args.mode c.args.text.now ≡ Say (codes "no device here") ∷ [] = ap (λ m. steps_of_device m c.args.text.now) is in
    subst (λ (steps : List Step). Works g.M.Mixer.next c.args.mode steps (of_line c.write_text.result) (desk c.args.self.now keeper flash before) (desk c.args.self.now keeper flash after)) (sym steps)
    (said g.M.Mixer.next (codes "no device here") c.write_text.result before after c.write_text.ensures.wrote c.args.mode c.args.self.now keeper flash)

pub returns-in-None-clause-works : goal.returns-in-None-clause-works
returns-in-None-clause-works g c = λ keeper.
    let flash = g.F.Flash.view c.args.flash.now in
    let before = g.K.Sink.view c.args.sink.now in
    let after = g.K.Sink.view c.write_text-in-None.new.sink in
    let other : c.args.mode ≢ mode.Serve = search rules in
    let steps = steps_unread c.args.mode c.args.text.now other c.in-None.ensures.value in
    subst (λ (steps : List Step). Works g.M.Mixer.next c.args.mode steps (of_line c.write_text-in-None.result) (desk c.args.self.now keeper flash before) (desk c.args.self.now keeper flash after)) (sym steps)
    (said g.M.Mixer.next (codes "unread") c.write_text-in-None.result before after c.write_text-in-None.ensures.wrote c.args.mode c.args.self.now keeper flash)

pub returns-in-Some-One-clause-works : goal.returns-in-Some-One-clause-works
returns-in-Some-One-clause-works g c = λ keeper.
    let other : c.args.mode ≢ mode.Serve = search rules in
    let value = rw c.in-Some-One.field-0-is at c.in-Some-One.ensures.value in
    let steps = steps_asked c.args.mode c.args.text.now other _ value in
    subst (λ (steps : List Step). Works g.M.Mixer.next c.args.mode steps (of_line c.answer.result) (desk c.args.self.now keeper (g.F.Flash.view c.args.flash.now) (g.K.Sink.view c.args.sink.now))
    (desk c.answer.new.self keeper (g.F.Flash.view c.answer.new.flash) (g.K.Sink.view c.answer.new.sink))) (sym steps) (c.answer.ensures.works c.args.mode keeper (uses_device c.args.mode other))

pub returns-in-Some-Keys-clause-works : goal.returns-in-Some-Keys-clause-works
returns-in-Some-Keys-clause-works g c = λ keeper.
    let other : c.args.mode ≢ mode.Serve = search rules in
    let value = rw c.in-Some-Keys.field-0-is at c.in-Some-Keys.ensures.value in
    let steps = steps_asked c.args.mode c.args.text.now other _ value in
    subst (λ (steps : List Step). Works g.M.Mixer.next c.args.mode steps (of_line c.keys.result) (desk c.args.self.now keeper (g.F.Flash.view c.args.flash.now) (g.K.Sink.view c.args.sink.now))
    (desk c.keys.new.self keeper (g.F.Flash.view c.keys.new.flash) (g.K.Sink.view c.keys.new.sink))) (sym steps) (c.keys.ensures.works c.args.mode keeper (uses_device c.args.mode other))
