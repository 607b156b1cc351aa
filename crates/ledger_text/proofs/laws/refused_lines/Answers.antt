use Rattle.ledger_text.proofs.RuleLemmas.{json_is_unread, shape_is_least, command_needs_no_memory}
use Rattle.ledger_text.proofs.laws.refused_lines.Goals as goal

pub returns : goal.returns
returns c = record { json = json_is_unread; shape = shape_is_least; memory = command_needs_no_memory }
