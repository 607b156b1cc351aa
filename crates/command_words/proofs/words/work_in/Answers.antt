use Rattle.std.proofs.Common.{sym}
use Rattle.command_words.proofs.Shapes.{none_of}
use Rattle.command_words.proofs.words.work_in.Goals as goal

pub returns-in_default-clause-work : goal.returns-in_default-clause-work
returns-in_default-clause-work c = sym (none_of (λ word. word.now) c.args.words.now c.in_default.len_at_least)
