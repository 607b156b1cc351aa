use Rattle.std.proofs.Common.{sym, ◌∙◌}
use Rattle.ledger_text.proofs.ReadingLemmas.{command_of_value, no_command}
use Rattle.ledger_text.proofs.lines.read.Goals as goal

pub returns-in-Ok-clause-value : goal.returns-in-Ok-clause-value
returns-in-Ok-clause-value c _ =
    c.command.ensures.value ∙ sym (command_of_value _ _ c.in-Ok.ensures.ok.0 c.in-Ok.ensures.ok.1)

pub returns-else-is_memory-clause-value : goal.returns-else-is_memory-clause-value
returns-else-is_memory-clause-value c _ =
    sym (no_command _ (c.in-Err.ensures.err (λ m. let t = c.is_memory.ensures.1 m in let f = c.if-is_memory.false in cc)))
