-- What the orders of a row come to, when one more is issued, a price changes or the limit is raised.
use Rattle.std.proofs.Common.{◌≡◌, ℕ, ◌+◌, ◌<◌, ◌≤◌, List, [], ◌∷◌, refl, sym, ap, subst, ◌∙◌, arith}
use Rattle.ledger_spec.specs.declared.Row.{Row}
use Rattle.ledger_spec.specs.declared.Order.{Order}
use Rattle.ledger_spec.specs.declared.Ask.{Ask}
use Rattle.ledger_spec.specs.declared.Issue.{Issue}
use Rattle.ledger_spec.specs.declared.PriceChange.{PriceChange}
use Rattle.ledger_spec.specs.Tables.{Tables, price_at, price_among, prices_in, prices_for, raised_row, lifted_row}
use Rattle.ledger_spec.specs.Ledger.{order_at, row_at}
use Rattle.ledger_spec.specs.Replay.{Account, Booked, booked, account_of, account_after, AreBooked, FallBelow, price_by, orders_back, IsReplayed}
use Rattle.ledger_spec.proofs.IssueLemmas.{IssueFits}
use Rattle.ledger_spec.proofs.PriceLemmas.{price_later, price_before, froms_with, froms_later}

-- counts that fall from below a bound fall from below a greater one
pub falls_from : (bound more : ℕ) (orders : List Order) → bound ≤ more → FallBelow bound orders → FallBelow more orders
falls_from bound more [] wider falls = tt
falls_from bound more (order ∷ orders) wider falls = let low : order.count < bound = falls.0 in (omega arith, falls.1)

-- the account after orders is decided by the prices at their counts
pub account_same : (price other : ℕ → ℕ) (total bound : ℕ) (orders : List Order) → FallBelow bound orders → ((n : ℕ) → n < bound → price n ≡ other n) → account_after price total orders ≡ account_after other total orders
account_same price other total bound [] falls same = refl
account_same price other total bound (order ∷ orders) falls same =
    let low : order.count < bound = falls.0 in
    let rest : account_after price total orders ≡ account_after other total orders = account_same price other total order.count orders falls.1 (λ n below. same n (omega arith)) in
    ap (λ p. (booked p total order.ask (account_after price total orders)).account) (same order.count low) ∙ ap (λ (a : Account). (booked (other order.count) total order.ask a).account) rest

-- and so are the kinds and values
pub booked_same : (price other : ℕ → ℕ) (total bound : ℕ) (orders : List Order) → FallBelow bound orders → ((n : ℕ) → n < bound → price n ≡ other n) → AreBooked price total orders → AreBooked other total orders
booked_same price other total bound [] falls same are = tt
booked_same price other total bound (order ∷ orders) falls same are =
    let low : order.count < bound = falls.0 in
    let rest : account_after price total orders ≡ account_after other total orders = account_same price other total order.count orders falls.1 (λ n below. same n (omega arith)) in
    let it : booked (price order.count) total order.ask (account_after price total orders) ≡ booked (other order.count) total order.ask (account_after other total orders) =
    ap (λ p. booked p total order.ask (account_after price total orders)) (same order.count low) ∙ ap (λ (a : Account). booked (other order.count) total order.ask a) rest in
    (are.0 ∙ ap (λ (b : Booked). b.kind) it, are.1 ∙ ap (λ (b : Booked). b.value) it, booked_same price other total order.count orders falls.1 (λ n below. same n (omega arith)) are.2)

-- a row whose limit is raised is what it was
pub replay_raised : (orders : List Order) (changes : List PriceChange) (row : Row) → IsReplayed orders changes row → IsReplayed orders changes (raised_row row)
replay_raised orders changes row is = record { falls = is.falls; froms = is.froms; booked = is.booked; account = is.account }

-- a row whose last count is lifted is what it was
pub replay_lifted : (to : ℕ) (orders : List Order) (changes : List PriceChange) (row : Row) → row.last < to → IsReplayed orders changes row → IsReplayed orders changes (lifted_row to row)
replay_lifted to orders changes row above is = record {
  falls = falls_from (row.last + 1) (to + 1) orders (omega arith) is.falls;
  froms = froms_later row.last to changes (omega arith) is.froms;
  booked = is.booked;
  account = is.account;
}

-- a change that holds from the row's last count on leaves what was issued
pub replay_priced : (orders : List Order) (change : PriceChange) (changes : List PriceChange) (serial : List ℕ) (row : Row) → change.from ≡ row.last → IsReplayed orders (prices_in changes serial) row → IsReplayed orders (prices_in (change ∷ changes) serial) row
replay_priced orders change changes serial row newest is =
    let same : (n : ℕ) → n < row.last + 1 → price_among row.price n (prices_in changes serial) ≡ price_among row.price n (prices_in (change ∷ changes) serial) = λ n below. sym (price_before row.price n change changes serial (omega arith)) in
    record {
      falls = is.falls;
      froms = froms_with row.last change changes serial (omega arith) is.froms;
      booked = booked_same (price_by (prices_in changes serial) row) (price_by (prices_in (change ∷ changes) serial) row) row.total (row.last + 1) orders is.falls same is.booked;
      account = sym (account_same (price_by (prices_in changes serial) row) (price_by (prices_in (change ∷ changes) serial) row) row.total (row.last + 1) orders is.falls same) ∙ is.account;
    }

-- an order that is issued for a row, and the row that is kept with it, whose terms are those of the row
module _ (order : Order) (orders : List Order) (changes : List PriceChange) (row now : Row) (ask : Ask) where
  pub replay_more : order.ask ≡ ask → row.last < order.count → order.count ≤ now.last → now.price ≡ row.price → now.total ≡ row.total
      → booked (price_by changes row (row.last + 1)) row.total ask (account_of row) ≡ record { kind = order.kind; value = order.value; account = account_of now }
      → IsReplayed orders changes row → IsReplayed (order ∷ orders) changes now
  replay_more ask_is above within price_is total_is books is =
      let same : price_by changes now ≡ price_by changes row = ap (λ p. λ n. price_among p n changes) price_is in
      let cost : price_by changes row order.count ≡ price_by changes row (row.last + 1) = price_later row.price row.last order.count changes is.froms above in
      let it : booked (price_by changes row order.count) row.total order.ask (account_after (price_by changes row) row.total orders) ≡ record { kind = order.kind; value = order.value; account = account_of now } =
      ap (λ (a : Account). booked (price_by changes row order.count) row.total order.ask a) is.account ∙ ap (λ (a : Ask). booked (price_by changes row order.count) row.total a (account_of row)) ask_is
      ∙ ap (λ p. booked p row.total ask (account_of row)) cost ∙ books in
      let all : AreBooked (price_by changes row) row.total (order ∷ orders) = (ap (λ (b : Booked). b.kind) (sym it), ap (λ (b : Booked). b.value) (sym it), is.booked) in
      let end : account_after (price_by changes row) row.total (order ∷ orders) ≡ account_of now = ap (λ (b : Booked). b.account) it in
      record {
        falls = (omega arith, falls_from (row.last + 1) order.count orders (omega arith) is.falls);
        froms = froms_later row.last now.last changes (omega arith) is.froms;
        booked = subst (λ (p : ℕ → ℕ). AreBooked p now.total (order ∷ orders)) (sym same) (subst (λ total. AreBooked (price_by changes row) total (order ∷ orders)) (sym total_is) all);
        account = subst (λ (p : ℕ → ℕ). account_after p now.total (order ∷ orders) ≡ account_of now) (sym same) (subst (λ total. account_after (price_by changes row) total (order ∷ orders) ≡ account_of now) (sym total_is) end);
      }

-- an issue is kept
pub replay_issue : (t : Tables) (next : List ℕ → ℕ → ℕ) (id : List ℕ) (ask : Ask) (row : Row) (issue : Issue) (count : ℕ) → IssueFits (price_at t row (row.last + 1)) row ask issue → row.last < count
    → IsReplayed (orders_back t issue.row.serial) (prices_for t issue.row.serial) row → IsReplayed (order_at next id ask issue count ∷ orders_back t issue.row.serial) (prices_for t issue.row.serial) (row_at issue count)
replay_issue t next id ask row issue count fits above is =
    replay_more (order_at next id ask issue count) (orders_back t issue.row.serial) (prices_for t issue.row.serial) row (row_at issue count) ask refl above (omega arith) fits.price fits.total
    (subst (λ (s : List ℕ). booked (price_by (prices_for t s) row (row.last + 1)) row.total ask (account_of row) ≡ record { kind = issue.kind; value = issue.value; account = account_of issue.row }) (sym fits.serial) fits.books)
    is
