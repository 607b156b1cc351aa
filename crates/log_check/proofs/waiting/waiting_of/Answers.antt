use Rattle.std.proofs.Common.{◌≡◌, ◌≢◌, List, length, get_or, subst, sym, ◌∙◌, rules}
use Rattle.std.specs.Prelude.{IfOk}
use Rattle.run_spec.specs.declared.Mode.TheVariants as mode
use Rattle.run_spec.specs.Run.{Step}
use Rattle.bench_run.proofs.Answering.{steps_none, steps_ledger, steps_device}
use Rattle.log_check.specs.Waiting.{steps_of}
use Rattle.log_check.proofs.waiting.waiting_of.Goals as goal

pub returns-then-is_empty-clause-steps : goal.returns-then-is_empty-clause-steps
returns-then-is_empty-clause-steps c =
    let none : length c.trimmed-text.result.now ≡ 0 = search rules in
    c.nothing.ensures.steps ∙ sym (steps_none mode.Both c.args.line.now _ c.requires c.trimmed-text.ensures none)

pub returns-then-text-eq123-clause-steps : goal.returns-then-text-eq123-clause-steps
returns-then-text-eq123-clause-steps c =
    let some : length c.trimmed-text.result.now ≢ 0 = search rules in
    let first : get_or c.trimmed-text.result.now 0 0 ≡ 123 = search rules in
    subst (λ (steps : List Step). IfOk c.of_ledger.result (λ w. steps_of w ≡ steps))
    (sym (steps_ledger mode.Both c.args.line.now c.trimmed-text.result.now c.requires c.trimmed-text.ensures some
    first)) c.of_ledger.ensures.steps

pub returns-clause-steps : goal.returns-clause-steps
returns-clause-steps c =
    let some : length c.trimmed-text.result.now ≢ 0 = search rules in
    let first : get_or c.trimmed-text.result.now 0 0 ≢ 123 = search rules in
    subst (λ (steps : List Step). IfOk c.of_device.result (λ w. steps_of w ≡ steps))
    (sym (steps_device mode.Both c.args.line.now c.trimmed-text.result.now c.requires c.trimmed-text.ensures some
    first)) c.of_device.ensures.steps
