use Rattle.std.proofs.Common.{◌≡◌, ℕ, suc, ◌+◌, ◌-◌, ◌<◌, ◌++◌, length, drop, ap, ◌∙◌, arith}
use Rattle.ledger_spec.specs.Replay.{account_after, price_by}
use Rattle.table_flaws.specs.Bounds.{bound_at}
use Rattle.table_flaws.specs.Flaws.{orders_flaws}
use Rattle.table_flaws.specs.Sums.{account_in, due_in}
use Rattle.table_flaws.proofs.Walking.{account_none, flaws_none, account_more, flaws_more}
use Rattle.table_flaws.proofs.finding.push_orders.Goals as goal

pub orders-init : goal.orders-init
orders-init g c = record {
  key = c.requires.key;
  start = c.requires.start;
  within = c.requires.within;
  paid = omega arith;
  rest = omega arith;
  sums = account_none (price_by c.args.changes.now c.args.row.now) c.args.row.now.total c.args.orders.now;
  flaws = flaws_none (g.M.Mixer.next c.args.row.now.key) (price_by c.args.changes.now c.args.row.now) c.args.row.now
      (bound_at (c.args.row.now.last + 1) c.args.orders.now (length c.args.orders.now)) c.args.orders.now c.args.flaws.now.items;
}

pub orders-preserved : goal.orders-preserved
orders-preserved g c =
    let same : c.orders.place ≡ suc (c.orders.place - 1) = omega arith in
    let within : c.orders.place - 1 < length c.args.orders.now = omega arith in
    record {
      key = rw c.push_order.ensures.same c.orders.invariant.key;
      start = rw c.push_order.ensures.same c.orders.invariant.start;
      within = rw c.push_order.ensures.same c.orders.invariant.within;
      paid = omega arith;
      rest = c.book-due.ensures.rest;
      sums = account_more (g.M.Mixer.next c.args.row.now.key) (price_by c.args.changes.now c.args.row.now) c.args.row.now c.args.orders.now
          (c.orders.place - 1) c.orders.place c.index-orders-place.result same within c.index-orders-place.is
          c.price_after-price.result (due_in c.book-due.result) (account_in c.orders.sums)
          c.price_after-price.ensures.price c.orders.invariant.sums c.book-due.ensures.due;
      flaws = flaws_more (g.M.Mixer.next c.args.row.now.key) (price_by c.args.changes.now c.args.row.now) c.args.row.now c.args.orders.now
          (c.orders.place - 1) c.orders.place c.index-orders-place.result same within c.index-orders-place.is
          c.price_after-price.result (due_in c.book-due.result) (account_in c.orders.sums)
          c.price_after-price.ensures.price c.orders.invariant.sums c.book-due.ensures.due
          (c.args.row.now.last + 1) c.bound_for-bound.result c.args.flaws.now.items c.orders.flaws.items c.push_order.new.flaws.items
          c.bound_for-bound.ensures c.orders.invariant.flaws c.in_ok-push_order.ensures.flaws;
    }

pub returns-clause-sums : goal.returns-clause-sums
returns-clause-sums g c =
    let none : c.orders.place ≡ 0 = omega arith in
    c.orders.invariant.sums
    ∙ ap (λ (n : ℕ). account_after (price_by c.args.changes.now c.args.row.now) c.args.row.now.total (drop n c.args.orders.now)) none

pub returns-clause-flaws : goal.returns-clause-flaws
returns-clause-flaws g c =
    let none : c.orders.place ≡ 0 = omega arith in
    c.orders.invariant.flaws
    ∙ ap (λ (n : ℕ). c.args.flaws.now.items ++ orders_flaws (g.M.Mixer.next c.args.row.now.key) (price_by c.args.changes.now c.args.row.now) c.args.row.now
    (bound_at (c.args.row.now.last + 1) c.args.orders.now n) (drop n c.args.orders.now)) none
