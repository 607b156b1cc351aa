use Rattle.std.proofs.Common.{◌≢◌, Ok, Err, sym, rules}
use Rattle.ledger_spec.specs.declared.TextFault.TheVariants as text_fault
use Rattle.run_spec.specs.declared.Mode.TheVariants as mode
use Rattle.bench_run.proofs.Answering.{steps_read, read_ok, read_fault}
use Rattle.log_check.proofs.Settling.{both_takes_ledger}
use Rattle.log_check.proofs.waiting.of_ledger.Goals as goal

pub returns-in-Ok-clause-steps : goal.returns-in-Ok-clause-steps
returns-in-Ok-clause-steps c =
    sym (steps_read mode.Both c.args.text.now (Ok c.in-Ok.command) both_takes_ledger
    (read_ok c.args.text.now c.in-Ok.command c.in-Ok.ensures.value))

pub returns-in-Err-clause-steps : goal.returns-in-Err-clause-steps
returns-in-Err-clause-steps c =
    let other : c.in-Err.fault ≢ text_fault.Memory = search rules in
    sym (steps_read mode.Both c.args.text.now (Err c.in-Err.fault) both_takes_ledger
    (read_fault c.args.text.now c.in-Err.fault other c.in-Err.ensures.value))
