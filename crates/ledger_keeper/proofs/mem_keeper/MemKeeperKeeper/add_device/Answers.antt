use Rattle.std.specs.Prelude.{is_ok}
use Rattle.ledger_spec.proofs.KeptLemmas.{kept_if_row}
use Rattle.ledger_keeper.proofs.mem_keeper.MemKeeperKeeper.add_device.Goals as goal

pub invariant_of-self-2 : goal.invariant_of-self-2
invariant_of-self-2 c = record {
  kept = rw c.insert.ensures.items (kept_if_row (is_ok c.insert.result) c.args.row.now record { rows = c.args.self.now.rows.items; orders = c.args.self.now.orders.items; changes = c.args.self.now.changes.items } c.requires.in_range c.requires.new c.args.self.now.kept);
}
