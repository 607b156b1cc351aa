use Rattle.journal_laws.proofs.Standing.{stands}
use Rattle.journal_laws.proofs.every_flash_stands_for_something.Goals as goal

pub returns : goal.returns
returns c = stands
