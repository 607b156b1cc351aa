use Rattle.ledger_spec.proofs.KeptLemmas.{row_found}
use Rattle.ledger_keeper.proofs.Rising.{found_asked}
use Rattle.ledger_keeper.proofs.mem_keeper.MemKeeperKeeper.device.Goals as goal

pub returns-clause-in_range : goal.returns-clause-in_range
returns-clause-in_range c =
    rw (c.row_among.ensures, c.deref.ensures.value) (row_found c.args.self.now.rows.items c.args.serial.now c.args.self.now.kept.rows)

pub returns-clause-asked : goal.returns-clause-asked
returns-clause-asked c =
    rw (c.row_among.ensures, c.deref.ensures.value) (found_asked c.args.self.now.rows.items c.args.serial.now)
