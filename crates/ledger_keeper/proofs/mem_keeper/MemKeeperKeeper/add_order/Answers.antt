use Rattle.std.proofs.Common.{sym, ◌∙◌}
use Rattle.std.specs.Prelude.{is_ok}
use Rattle.ledger_spec.proofs.KeptLemmas.{kept_if_order}
use Rattle.ledger_keeper.proofs.mem_keeper.MemKeeperKeeper.add_order.Goals as goal

pub invariant_of-self-2 : goal.invariant_of-self-2
invariant_of-self-2 c = record {
  kept = rw (c.put.ensures, c.insert.ensures.items) (kept_if_order (is_ok c.insert.result) (sym c.is_ok-added.ensures.value ∙ c.if-not-added.false) c.args.order.now c.args.row.now record { rows = c.args.self.now.rows.items; orders = c.args.self.now.orders.items; changes = c.args.self.now.changes.items } c.requires.order c.requires.row c.requires.same c.requires.new c.requires.kept c.args.self.now.kept);
}
