use Rattle.ledger_spec.proofs.KeptLemmas.{kept_with_lifted}
use Rattle.ledger_keeper.proofs.mem_keeper.MemKeeperKeeper.skip.Goals as goal

pub invariant_of-self-2 : goal.invariant_of-self-2
invariant_of-self-2 c = record {
  kept = rw c.lift_among.ensures (kept_with_lifted c.args.to c.args.serial.now record { rows = c.args.self.now.rows.items; orders = c.args.self.now.orders.items; changes = c.args.self.now.changes.items } c.requires c.args.self.now.kept);
}
