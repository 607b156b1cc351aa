use Rattle.ledger_laws.proofs.Laws.{command_keeps}
use Rattle.ledger_laws.proofs.commands_keep_orders.Goals as goal

pub returns : goal.returns
returns c = command_keeps
