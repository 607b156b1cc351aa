use Rattle.std.proofs.Common.{◌≡◌, ◌<◌, ◌++◌, take}
use Rattle.std.specs.Prelude.{All}
use Rattle.loan_ledger.specs.Audit.{wrong_among}
use Rattle.loan_ledger.proofs.auditing.audit_orders.Given as goal

abbrev pub invariant-orders : goal.invariant-orders
invariant-orders g l = record {
  key : l.tokens.key ≡ l.row.key;
  start : l.tokens.start ≡ l.row.start;
  within : All (λ order. order.count < l.tokens.counts) l.orders;
  wrong : l.wrong.items ≡ l.fn.wrong.items ++ wrong_among g.M.Mixer.next l.row (take l.order-index l.orders);
}
