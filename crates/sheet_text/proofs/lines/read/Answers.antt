use Rattle.std.proofs.Common.{sym, ◌∙◌}
use Rattle.sheet_text.proofs.ReadingLemmas.{ask_of_value, no_ask}
use Rattle.sheet_text.proofs.lines.read.Goals as goal

pub returns-in-Ok-clause-value : goal.returns-in-Ok-clause-value
returns-in-Ok-clause-value c _ =
    c.asked_by.ensures.value ∙ sym (ask_of_value _ _ c.in-Ok.ensures.ok.0 c.in-Ok.ensures.ok.1)

pub returns-else-is_memory-clause-value : goal.returns-else-is_memory-clause-value
returns-else-is_memory-clause-value c _ =
    sym (no_ask _ (c.in-Err.ensures.err (λ m. let t = c.is_memory.ensures.1 m in let f = c.if-is_memory.false in cc)))
