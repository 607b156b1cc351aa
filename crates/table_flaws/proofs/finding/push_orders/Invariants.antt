use Rattle.std.proofs.Common.{◌≡◌, ◌<◌, ◌≤◌, ◌+◌, ◌*◌, ◌^◌, ◌++◌, drop, length}
use Rattle.std.specs.Prelude.{All}
use Rattle.ledger_spec.specs.Replay.{account_after, price_by}
use Rattle.table_flaws.specs.Bounds.{bound_at}
use Rattle.table_flaws.specs.Flaws.{orders_flaws}
use Rattle.table_flaws.specs.Sums.{account_in}
use Rattle.table_flaws.proofs.finding.push_orders.Given as goal

abbrev pub invariant-orders : goal.invariant-orders
invariant-orders g l = record {
  key : l.tokens.key ≡ l.row.key;
  start : l.tokens.start ≡ l.row.start;
  within : All (λ order. order.count < l.tokens.counts) l.orders;
  paid : l.sums.paid + l.place * 10 ^ 12 ≤ length l.orders * 10 ^ 12;
  rest : l.sums.rest < 10 ^ 9;
  sums : account_in l.sums ≡ account_after (price_by l.changes l.row) l.row.total (drop l.place l.orders);
  flaws : l.flaws.items ≡ l.fn.flaws.items ++ orders_flaws (g.M.Mixer.next l.row.key) (price_by l.changes l.row) l.row (bound_at (l.row.last + 1) l.orders l.place) (drop l.place l.orders);
}
