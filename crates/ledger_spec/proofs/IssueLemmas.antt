-- What is issued fits the row, and the row and the order that are kept then are in range.
use Rattle.std.proofs.Common.{◌≡◌, ℕ, ◌+◌, ◌*◌, ◌/◌, ◌%◌, ◌^◌, ◌<◌, ◌≤◌, true, false, ◌&&◌, cond, Some, List, Result, Ok, Err, refl, ap, subst, arith, nat_lt, lit≤}
use Rattle.std.proofs.lemmas.Bool.{ltb-true, ltb-false, eqb-true, and_parts}
use Rattle.std.specs.Prelude.{◌==◌}
use Rattle.paygo_spec.proofs.Leasts.{least_says_some}
use Rattle.ledger_spec.specs.declared.Kind.{Kind}
use Rattle.ledger_spec.specs.Issuing.{parity_of, is_clean, may_issue, pick}
use Rattle.paygo_spec.specs.Chain.{token_at}
use Rattle.ledger_spec.specs.declared.Row.{Row}
use Rattle.ledger_spec.specs.declared.Ask.{Ask}
use Rattle.ledger_spec.specs.declared.Ask.TheVariants as asks
use Rattle.ledger_spec.specs.declared.Answer.{Answer}
use Rattle.ledger_spec.specs.declared.Answer.TheVariants as answer_is
use Rattle.ledger_spec.specs.declared.Kind.TheVariants as kind_is
use Rattle.ledger_spec.specs.declared.Issue.{Issue}
use Rattle.ledger_spec.specs.Tables.{RowIsInRange, OrderIsInRange, AskIsInRange}
use Rattle.ledger_spec.specs.Replay.{booked, account_of}
use Rattle.ledger_spec.proofs.KeptLemmas.{below_great}
use Rattle.ledger_spec.proofs.PriceLemmas.{IsPrice}
use Rattle.ledger_spec.specs.Ledger.{issue_for, pays, buys, order_at, row_at}

-- the amount that is paid with what is asked
abbrev pub amount_of : Ask → ℕ
amount_of (asks.Pay amount) = amount
amount_of _ = 0

-- what is issued is for the device of the row
pub record IssueFits (cost : ℕ) (row : Row) (ask : Ask) (issue : Issue) : Type 0 where
  pub serial : issue.row.serial ≡ row.serial
  pub key : issue.row.key ≡ row.key
  pub start : issue.row.start ≡ row.start
  pub divider : issue.row.divider ≡ row.divider
  pub form : issue.row.form ≡ row.form
  pub price : issue.row.price ≡ row.price
  pub total : issue.row.total ≡ row.total
  pub last : issue.row.last ≡ row.last
  pub paid : issue.row.paid ≡ row.paid + amount_of ask
  pub limit : issue.row.limit ≡ row.limit
  pub rest : issue.row.rest < 10 ^ 9
  pub value : issue.value ≤ 999
  pub units : issue.kind ≡ kind_is.Add → issue.value ≤ 995
  pub books : booked cost row.total ask (account_of row) ≡ record { kind = issue.kind; value = issue.value; account = account_of issue.row }

abbrev granted : Issue → Result Issue Answer
granted issue = Ok issue

module _ (price : ℕ) (good : IsPrice price) (row : Row) (in_range : RowIsInRange row) where
  by_issue : (ask : Ask) (made issue : Issue) → IssueFits price row ask made → granted made ≡ Ok issue → IssueFits price row ask issue
  by_issue ask made issue fits is = let one : made ≡ issue = cc in subst (λ (i : Issue). IssueFits price row ask i) one fits

  -- a payment below the total
  abbrev bought : ℕ → Issue
  bought amount = record { kind = kind_is.Add; value = (row.rest + amount) / price; row = record row { paid = row.paid + amount; rest = (row.rest + amount) % price } }

  bought_fits : (amount : ℕ) → nat_lt (row.paid + amount) row.total ≡ true → nat_lt 995 ((row.rest + amount) / price) ≡ false → IssueFits price row (asks.Pay amount) (bought amount)
  bought_fits amount below large =
      let few : (row.rest + amount) / price ≤ 995 = ltb-false 995 ((row.rest + amount) / price) large in
      let low : 0 < price = omega (arith, good.0) in
      let most : price ≤ 10 ^ 9 = good.1 in
      let small : (row.rest + amount) % price < price = omega (arith, low) in
      record {
        serial = refl;
        key = refl;
        start = refl;
        divider = refl;
        form = refl;
        price = refl;
        total = refl;
        limit = refl;
        last = refl;
        paid = refl;
        rest = omega (arith, small, most);
        value = omega (arith, few);
        units = λ add. few;
        books = ap (λ b. cond b (record { kind = kind_is.Add; value = (row.rest + amount) / price; account = record { paid = row.paid + amount; rest = (row.rest + amount) % price; closed = row.closed } }) (record { kind = kind_is.Disable; value = 998; account = record { paid = row.paid + amount; rest = 0; closed = true } })) below;
      }

  buys_fits : (amount : ℕ) (issue : Issue) → nat_lt (row.paid + amount) row.total ≡ true → buys price row amount (row.rest + amount) ≡ Ok issue → IssueFits price row (asks.Pay amount) issue
  buys_fits amount issue below is = (elim (nat_lt (row.rest + amount) price) as (λ t. cond t (Err (answer_is.Small (row.rest + amount) price)) (cond (nat_lt 995 ((row.rest + amount) / price)) (Err (answer_is.Large ((row.rest + amount) / price))) (Ok (bought amount))) ≡ Ok issue → IssueFits price row (asks.Pay amount) issue) [
    | true ↦ λ is. cc
    | false ↦ λ is. (elim (nat_lt 995 ((row.rest + amount) / price)) as (λ t. nat_lt 995 ((row.rest + amount) / price) ≡ t → cond t (Err (answer_is.Large ((row.rest + amount) / price))) (Ok (bought amount)) ≡ Ok issue → IssueFits price row (asks.Pay amount) issue) [
      | true ↦ λ large is. cc
      | false ↦ λ large is. by_issue (asks.Pay amount) (bought amount) issue (bought_fits amount below large) is
    ]) refl is
  ]) is

  -- a payment that reaches the total
  abbrev settled : ℕ → Issue
  settled amount = record { kind = kind_is.Disable; value = 998; row = record row { paid = row.paid + amount; rest = 0; closed = true } }

  settled_fits : (amount : ℕ) → nat_lt (row.paid + amount) row.total ≡ false → IssueFits price row (asks.Pay amount) (settled amount)
  settled_fits amount reached = record {
    serial = refl;
    key = refl;
    start = refl;
    divider = refl;
    form = refl;
    price = refl;
    total = refl;
    limit = refl;
    last = refl;
    paid = refl;
    rest = lit≤ tt;
    value = lit≤ tt;
    units = λ add. cc;
    books = ap (λ b. cond b (record { kind = kind_is.Add; value = (row.rest + amount) / price; account = record { paid = row.paid + amount; rest = (row.rest + amount) % price; closed = row.closed } }) (record { kind = kind_is.Disable; value = 998; account = record { paid = row.paid + amount; rest = 0; closed = true } })) reached;
  }

  pays_fits : (amount : ℕ) (issue : Issue) → pays price row amount ≡ Ok issue → IssueFits price row (asks.Pay amount) issue
  pays_fits amount issue is = (elim (row.closed) as (λ t. cond t (Err (answer_is.Closed row.paid)) (cond (nat_lt (row.paid + amount) row.total) (buys price row amount (row.rest + amount)) (Ok (settled amount))) ≡ Ok issue → IssueFits price row (asks.Pay amount) issue) [
    | true ↦ λ is. cc
    | false ↦ λ is. (elim (nat_lt (row.paid + amount) row.total) as (λ t. nat_lt (row.paid + amount) row.total ≡ t → cond t (buys price row amount (row.rest + amount)) (Ok (settled amount)) ≡ Ok issue → IssueFits price row (asks.Pay amount) issue) [
      | true ↦ λ below is. buys_fits amount issue below is
      | false ↦ λ reached is. by_issue (asks.Pay amount) (settled amount) issue (settled_fits amount reached) is
    ]) refl is
  ]) is

  pub issue_fits : (ask : Ask) (issue : Issue) → AskIsInRange ask → issue_for price row ask ≡ Ok issue → IssueFits price row ask issue
  issue_fits (asks.Pay amount) issue asked is = pays_fits amount issue is
  issue_fits (asks.Set units) issue asked is = by_issue (asks.Set units) record { kind = kind_is.Set; value = units; row = record row { closed = false } } issue record { serial = refl; key = refl; start = refl; divider = refl; form = refl; price = refl; total = refl; limit = refl; last = refl; paid = omega arith; rest = in_range.rest; value = omega arith; units = λ add. cc; books = refl } is
  issue_fits asks.Disable issue asked is = by_issue asks.Disable record { kind = kind_is.Disable; value = 998; row = record row { closed = true } } issue record { serial = refl; key = refl; start = refl; divider = refl; form = refl; price = refl; total = refl; limit = refl; last = refl; paid = omega arith; rest = in_range.rest; value = lit≤ tt; units = λ add. cc; books = refl } is
  issue_fits asks.Sync issue asked is = by_issue asks.Sync record { kind = kind_is.Sync; value = 999; row = row } issue record { serial = refl; key = refl; start = refl; divider = refl; form = refl; price = refl; total = refl; limit = refl; last = refl; paid = omega arith; rest = in_range.rest; value = lit≤ tt; units = λ add. cc; books = refl } is

at_most : (ask : Ask) → AskIsInRange ask → amount_of ask ≤ 10 ^ 12
at_most (asks.Pay amount) asked = asked.1
at_most (asks.Set units) asked = lit≤ tt
at_most asks.Disable asked = lit≤ tt
at_most asks.Sync asked = lit≤ tt

more_money : (paid amount last count : ℕ) → paid ≤ last * 10 ^ 12 → amount ≤ 10 ^ 12 → last < count → paid + amount ≤ count * 10 ^ 12
more_money paid amount last count before little more = omega arith

-- the row that is kept with an issue is in range
pub row_fits : (price : ℕ) (row : Row) (ask : Ask) (issue : Issue) (count : ℕ) → RowIsInRange row → AskIsInRange ask → IssueFits price row ask issue → row.last < count → count ≤ row.limit → RowIsInRange (row_at issue count)
row_fits price row ask issue count in_range asked fits above within = record {
  serial = rw fits.serial in_range.serial;
  start = rw fits.start in_range.start;
  divider = rw fits.divider in_range.divider;
  price = rw fits.price in_range.price;
  total = rw fits.total in_range.total;
  limit = rw fits.limit in_range.limit;
  last = rw fits.limit within;
  paid = rw fits.paid (more_money row.paid (amount_of ask) row.last count in_range.paid (at_most ask asked) above);
  rest = fits.rest;
}

-- the order of an issue is in range
pub order_fits : (next : List ℕ → ℕ → ℕ) (id : List ℕ) (price : ℕ) (row : Row) (ask : Ask) (issue : Issue) (count : ℕ) → RowIsInRange row → AskIsInRange ask → IssueFits price row ask issue → row.last < count → count ≤ row.limit
    → token_at (next issue.row.key) issue.row.start issue.value count < 10 ^ 9 → OrderIsInRange (order_at next id ask issue count)
order_fits next id price row ask issue count in_range asked fits above within below = record {
  serial = rw fits.serial in_range.serial;
  ask = asked;
  count = (omega arith, below_great row.limit count in_range.limit within);
  value = fits.value;
  token = below;
}

-- what a count that is picked is: above the last one, of the kind's parity, and clean
pub record Picked (next : ℕ → ℕ) (start limit last : ℕ) (kind : Kind) (value count : ℕ) : Type 0 where
  pub above : last < count
  pub within : count ≤ limit
  pub parity : count % 2 ≡ parity_of kind
  pub clean : is_clean next start value count ≡ true

pub picked : (next : ℕ → ℕ) (start limit last : ℕ) (kind : Kind) (value count : ℕ) → pick next start limit last kind value ≡ Some count → Picked next start limit last kind value count
picked next start limit last kind value count is =
    let least = least_says_some (may_issue next start last kind value) (limit + 1) count is in
    let low : count < limit + 1 = least.below in
    let parts = and_parts (nat_lt last count) ((count % 2 == parity_of kind) && is_clean next start value count) least.passes in
    let more = and_parts (count % 2 == parity_of kind) (is_clean next start value count) parts.1 in
    record {
      above = ltb-true last count parts.0;
      within = omega arith;
      parity = eqb-true (count % 2) (parity_of kind) more.0;
      clean = more.1;
    }

-- a count that is picked for what is issued is above the row's last one, and at most its limit
pub picked_above : (price : ℕ) (row : Row) (ask : Ask) (issue : Issue) (next : ℕ → ℕ) (start count : ℕ) → IsPrice price → RowIsInRange row → AskIsInRange ask → issue_for price row ask ≡ Ok issue
    → pick next start issue.row.limit issue.row.last issue.kind issue.value ≡ Some count → row.last < count
picked_above price row ask issue next start count good in_range asked is pick_is =
    let fits = issue_fits price good row in_range ask issue asked is in
    let above : issue.row.last < count = (picked next start issue.row.limit issue.row.last issue.kind issue.value count pick_is).above in
    let same : issue.row.last ≡ row.last = fits.last in
    omega arith

pub picked_within : (price : ℕ) (row : Row) (ask : Ask) (issue : Issue) (next : ℕ → ℕ) (start count : ℕ) → IsPrice price → RowIsInRange row → AskIsInRange ask → issue_for price row ask ≡ Ok issue
    → pick next start issue.row.limit issue.row.last issue.kind issue.value ≡ Some count → count ≤ row.limit
picked_within price row ask issue next start count good in_range asked is pick_is =
    let fits = issue_fits price good row in_range ask issue asked is in
    let within : count ≤ issue.row.limit = (picked next start issue.row.limit issue.row.last issue.kind issue.value count pick_is).within in
    let same : issue.row.limit ≡ row.limit = fits.limit in
    omega arith
