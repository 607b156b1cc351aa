use Rattle.ledger_spec.proofs.KeptLemmas.{kept_with_raised}
use Rattle.ledger_keeper.proofs.mem_keeper.MemKeeperKeeper.raise.Goals as goal

pub invariant_of-self-2 : goal.invariant_of-self-2
invariant_of-self-2 c = record {
  kept = rw c.raise_among.ensures (kept_with_raised c.args.serial.now record { rows = c.args.self.now.rows.items; orders = c.args.self.now.orders.items; changes = c.args.self.now.changes.items } c.args.self.now.kept);
}
