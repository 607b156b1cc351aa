use Rattle.std.specs.Prelude.{is_ok}
use Rattle.ledger_spec.proofs.KeptLemmas.{kept_if_change}
use Rattle.ledger_keeper.proofs.mem_keeper.MemKeeperKeeper.add_price.Goals as goal

pub invariant_of-self-2 : goal.invariant_of-self-2
invariant_of-self-2 c = record {
  kept = rw c.insert.ensures.items (kept_if_change (is_ok c.insert.result) c.args.change.now record { rows = c.args.self.now.rows.items; orders = c.args.self.now.orders.items; changes = c.args.self.now.changes.items } c.requires.in_range c.requires.new c.requires.kept c.args.self.now.kept);
}
