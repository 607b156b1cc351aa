use Rattle.std.proofs.Common.{◌≡◌, List, sym, subst}
use Rattle.std.specs.Prelude.{IfOk}
use Rattle.run_spec.specs.declared.Mode.TheVariants as mode
use Rattle.run_spec.specs.Run.{Step}
use Rattle.bench_run.proofs.Answering.{steps_asked, steps_unread}
use Rattle.log_check.specs.Waiting.{steps_of}
use Rattle.log_check.proofs.Settling.{both_takes_device}
use Rattle.log_check.proofs.waiting.of_device.Goals as goal

pub returns-in-None-clause-steps : goal.returns-in-None-clause-steps
returns-in-None-clause-steps c = sym (steps_unread mode.Both c.args.text.now both_takes_device c.in-None.ensures.value)

pub returns-in-Some-One-clause-steps : goal.returns-in-Some-One-clause-steps
returns-in-Some-One-clause-steps c =
    let value = rw c.in-Some-One.field-0-is at c.in-Some-One.ensures.value in
    subst (λ (steps : List Step). IfOk c.one.result (λ w. steps_of w ≡ steps))
    (sym (steps_asked mode.Both c.args.text.now both_takes_device _ value)) c.one.ensures.steps
