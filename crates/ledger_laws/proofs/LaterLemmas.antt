-- What stays in the tables, one command after another.
use Rattle.std.specs.Prelude.{nat_le}
use Rattle.std.proofs.lemmas.Bool.{ltb-true, leb-true}
use Rattle.std.proofs.Common.{Bool, true, false, ◌==◌, nat_lt, ◌≡◌, ℕ, zero, suc, ◌+◌, ◌*◌, ◌/◌, ◌%◌, ◌<◌, ◌≤◌, ◌^◌, List, [], ◌∷◌, inl, inr, Option, Some, None, Result, Ok, Err, cond, refl, sym, ap, subst, ◌∙◌, arith, lit≤}
use Rattle.paygo_spec.specs.declared.TheConstants.{LAST}
use Rattle.paygo_spec.specs.Chain.{token_at, first_code, code_from, with_base}
use Rattle.ledger_spec.specs.declared.Row.{Row}
use Rattle.ledger_spec.specs.declared.Order.{Order}
use Rattle.ledger_spec.specs.declared.Ask.{Ask}
use Rattle.ledger_spec.specs.declared.Ask.TheVariants as asks
use Rattle.ledger_spec.specs.declared.Answer.{Answer}
use Rattle.ledger_spec.specs.declared.Issue.{Issue}
use Rattle.ledger_spec.specs.declared.PriceChange.{PriceChange}
use Rattle.ledger_spec.specs.declared.Enrol.{Enrol}
use Rattle.ledger_spec.specs.declared.Command.{Command}
use Rattle.ledger_spec.specs.declared.Command.TheVariants as command_is
use Rattle.ledger_spec.specs.Tables.{Tables, row_of, order_of, row_in, order_in, rows_with, with_row, with_order, price_at, change_of, with_change, raised_row, raised_by, lifted_row, lifted_by, RowIsInRange, ChangeIsInRange, AskIsInRange, Kept}
use Rattle.ledger_spec.specs.Issuing.{pick}
use Rattle.ledger_spec.specs.Ledger.{done, enrolled, new_row, asked, asked_of, issued, issued_at, offered, order_at, row_at, raises, raised_at, repriced, changed_of, changed_at, change_to, skipped, skipped_at, lifted_at, IsCommand, EnrolIsInRange}
use Rattle.ledger_spec.proofs.NameLemmas.{same_or_not}
use Rattle.ledger_spec.proofs.Lookups.{row_found_again, row_other, row_same}
use Rattle.ledger_spec.proofs.KeptLemmas.{row_kept, kept_with_row, kept_with_order, kept_with_change, kept_raised, kept_lifted, limit_low, some_by}
use Rattle.ledger_spec.proofs.PriceLemmas.{price_in_range, change_stays}
use Rattle.ledger_spec.proofs.IssueLemmas.{IssueFits, issue_fits, row_fits, order_fits, picked}
use Rattle.ledger_spec.specs.Sound.{StaysBelow}
use Rattle.ledger_laws.specs.Later.{GoesOn, Later, Asked, Runs}

same_limit : (a b : ℕ) → a ≡ b → b ≤ a
same_limit a b is = omega arith

-- a row goes on as itself, and further
pub goes_still : (row : Row) → GoesOn row row
goes_still row = record { serial = refl; key = refl; start = refl; divider = refl; form = refl; price = refl; total = refl; last = omega arith; limit = omega arith }

pub goes_then : (a b c : Row) → GoesOn a b → GoesOn b c → GoesOn a c
goes_then a b c one two =
    let low : a.last ≤ b.last = one.last in
    let high : b.last ≤ c.last = two.last in
    let low2 : a.limit ≤ b.limit = one.limit in
    let high2 : b.limit ≤ c.limit = two.limit in
    record {
      serial = two.serial ∙ one.serial;
      key = two.key ∙ one.key;
      start = two.start ∙ one.start;
      divider = two.divider ∙ one.divider;
      form = two.form ∙ one.form;
      price = two.price ∙ one.price;
      total = two.total ∙ one.total;
      last = omega arith;
      limit = omega arith;
    }

pub later_still : (t : Tables) → Later t t
later_still t = record { orders = λ id order is. is; rows = λ serial row is. (row, is, goes_still row); changes = λ serial from change is. is }

pub later_then : (a b c : Tables) → Later a b → Later b c → Later a c
later_then a b c one two = record {
  orders = λ id order is. two.orders id order (one.orders id order is);
  rows = λ serial row is.
      let mid = one.rows serial row is in
      let now = two.rows serial mid.0 mid.1 in
      (now.0, now.1, goes_then row mid.0 now.0 mid.2 now.2);
  changes = λ serial from change is. two.changes serial from change (one.changes serial from change is);
}

-- an order that is kept is found behind a new one with another id
order_stays : (new : Order) (orders : List Order) (id : List ℕ) (order : Order) → order_in orders new.id ≡ None → order_in orders id ≡ Some order → order_in (new ∷ orders) id ≡ Some order
order_stays new orders id order none is = elim (same_or_not new.id id) [
  | inl same ↦ let bad : None ≡ Some order = sym none ∙ ap (λ i. order_in orders i) same ∙ is in cc
  | inr other ↦ ap (λ b. cond b (Some new) (order_in orders id)) other ∙ is
]

-- a row is added
pub later_with_row : (row : Row) (t : Tables) → row_of t row.serial ≡ None → Later t (with_row row t)
later_with_row row t none = record {
  orders = λ id order is. is;
  rows = λ serial old is. elim (same_or_not row.serial serial) [
    | inl same ↦ let bad : None ≡ Some old = sym none ∙ ap (λ s. row_of t s) same ∙ is in cc
    | inr other ↦ (old, ap (λ b. cond b (Some row) (row_in t.rows serial)) other ∙ is, goes_still old)
  ];
  changes = λ serial from change is. is;
}

-- an order is added, and a row takes the place of the one it goes on from
pub later_with_order : (order : Order) (row old : Row) (t : Tables) → order_of t order.id ≡ None → row_of t row.serial ≡ Some old → GoesOn old row → Later t (with_order order row t)
later_with_order order row old t none is goes = record {
  orders = λ id kept found. order_stays order t.orders id kept none found;
  rows = λ serial r found. elim (same_or_not row.serial serial) [
    | inl same ↦
        let one : Some old ≡ Some r = sym is ∙ ap (λ s. row_of t s) same ∙ found in
        let it : old ≡ r = cc in
        (row, ap (λ s. row_in (rows_with row t.rows) s) (sym same) ∙ row_same row t.rows old is, subst (λ (x : Row). GoesOn x row) it goes)
    | inr other ↦ (r, row_other row t.rows serial other ∙ found, goes_still r)
  ];
  changes = λ serial from change found. found;
}

-- the limit of a row is raised
pub raised_goes : (row : Row) → RowIsInRange row → GoesOn row (raised_row row)
raised_goes row in_range = record { serial = refl; key = refl; start = refl; divider = refl; form = refl; price = refl; total = refl; last = omega arith; limit = limit_low row.limit in_range.limit }

-- and it takes the place of the one before
pub later_raised : (row : Row) (t : Tables) → row_of t row.serial ≡ Some row → RowIsInRange row → Later t (raised_by (Some row) t)
later_raised row t is in_range = record {
  orders = λ id order found. found;
  rows = λ serial r found. elim (same_or_not row.serial serial) [
    | inl same ↦
        let one : Some row ≡ Some r = sym is ∙ ap (λ s. row_of t s) same ∙ found in
        let it : row ≡ r = cc in
        (raised_row row, ap (λ s. row_in (rows_with (raised_row row) t.rows) s) (sym same) ∙ row_same (raised_row row) t.rows row is, subst (λ (x : Row). GoesOn x (raised_row row)) it (raised_goes row in_range))
    | inr other ↦ (r, row_other (raised_row row) t.rows serial other ∙ found, goes_still r)
  ];
  changes = λ serial from change found. found;
}

-- the last count of a row is lifted
pub lifted_goes : (to : ℕ) (row : Row) → row.last < to → GoesOn row (lifted_row to row)
lifted_goes to row above = record { serial = refl; key = refl; start = refl; divider = refl; form = refl; price = refl; total = refl; last = omega arith; limit = omega arith }

-- and it takes the place of the one before
pub later_lifted : (to : ℕ) (row : Row) (t : Tables) → row.last < to → row_of t row.serial ≡ Some row → Later t (lifted_by to (Some row) t)
later_lifted to row t above is = record {
  orders = λ id order found. found;
  rows = λ serial r found. elim (same_or_not row.serial serial) [
    | inl same ↦
        let one : Some row ≡ Some r = sym is ∙ ap (λ s. row_of t s) same ∙ found in
        let it : row ≡ r = cc in
        (lifted_row to row, ap (λ s. row_in (rows_with (lifted_row to row) t.rows) s) (sym same) ∙ row_same (lifted_row to row) t.rows row is, subst (λ (x : Row). GoesOn x (lifted_row to row)) it (lifted_goes to row above))
    | inr other ↦ (r, row_other (lifted_row to row) t.rows serial other ∙ found, goes_still r)
  ];
  changes = λ serial from change found. found;
}

-- a change of a price that isn't kept is added
pub later_with_change : (change : PriceChange) (t : Tables) → change_of t change.serial change.from ≡ None → Later t (with_change change t)
later_with_change change t none = record {
  orders = λ id order is. is;
  rows = λ serial row is. (row, is, goes_still row);
  changes = λ serial from kept is. change_stays change t.changes serial from kept none is;
}

-- the row that is kept with an issue goes on from the one before
pub issue_goes : (price : ℕ) (row : Row) (ask : Ask) (issue : Issue) (count : ℕ) → IssueFits price row ask issue → row.last < count → GoesOn row (row_at issue count)
issue_goes price row ask issue count fits above = record { serial = fits.serial; key = fits.key; start = fits.start; divider = fits.divider; form = fits.form; price = fits.price; total = fits.total; last = omega arith; limit = same_limit issue.row.limit row.limit fits.limit }

at_limit : (count a b : ℕ) → count ≤ a → a ≡ b → count ≤ b
at_limit count a b low is = omega arith

-- every code of a chain is below 10^9, and so is every token
code_below : (next : List ℕ → ℕ → ℕ) (key : List ℕ) (first n : ℕ) → StaysBelow next → first < 10 ^ 9 → code_from (next key) first n < 10 ^ 9
unfolding code_from
code_below next key first zero below start = start
code_below next key first (suc n) below start = below key (code_from (next key) first n)

with_base_below : (code b : ℕ) → code < 10 ^ 9 → b < 1000 → with_base code b < 10 ^ 9
with_base_below code b small low = let parts : 1000 * (code / 1000) + code % 1000 ≡ code = omega arith in omega arith

pub token_below : (next : List ℕ → ℕ → ℕ) (key : List ℕ) (start value count : ℕ) → StaysBelow next → start < 10 ^ 9 → token_at (next key) start value count < 10 ^ 9
token_below next key start value count below small =
    let base : (start % 1000 + value) % 1000 < 1000 = omega arith in
    let first : first_code start value < 10 ^ 9 = with_base_below start ((start % 1000 + value) % 1000) small base in
    with_base_below (code_from (next key) (first_code start value) count) ((start % 1000 + value) % 1000) (code_below next key (first_code start value) count below first) base

module _ (next : List ℕ → ℕ → ℕ) (below : StaysBelow next) where
  -- what is enrolled is in range
  pub new_row_fits : (enrol : Enrol) → EnrolIsInRange enrol → RowIsInRange (new_row enrol)
  new_row_fits enrol in_range = record {
    serial = in_range.serial;
    start = in_range.start;
    divider = in_range.divider;
    price = in_range.price;
    total = in_range.total;
    limit = refl;
    last = lit≤ tt;
    paid = lit≤ tt;
    rest = lit≤ tt;
  }

  -- What the tables are after a call of the ledger: in order, and later than those before.
  pub record GoesWell (old new : Tables) : Type 0 where
    pub kept : Kept new
    pub later : Later old new

  stays_well : (t : Tables) → Kept t → GoesWell t t
  stays_well t kept = record { kept = kept; later = later_still t }

  -- an issue is kept
  issue_well : (t : Tables) (id : List ℕ) (ask : Ask) (price : ℕ) (row : Row) (issue : Issue) (count : ℕ) → Kept t → RowIsInRange row → AskIsInRange ask → IssueFits price row ask issue → row_of t row.serial ≡ Some row → order_of t id ≡ None
      → row.last < count → count ≤ row.limit → GoesWell t (with_order (order_at next id ask issue count) (row_at issue count) t)
  issue_well t id ask price row issue count kept in_range asked fits is none above within =
      let found : row_of t issue.row.serial ≡ Some row = ap (λ s. row_of t s) fits.serial ∙ is in
      let start : issue.row.start < 10 ^ 9 = rw fits.start in_range.start in
      let row_ok = row_fits price row ask issue count in_range asked fits above within in
      let order_ok = order_fits next id price row ask issue count in_range asked fits above within (token_below next issue.row.key issue.row.start issue.value count below start) in
      record {
        kept = kept_with_order (order_at next id ask issue count) (row_at issue count) row t order_ok row_ok refl none found kept;
        later = later_with_order (order_at next id ask issue count) (row_at issue count) row t none found (issue_goes price row ask issue count fits above);
      }

  issued_at_well : (t : Tables) (id : List ℕ) (ask : Ask) (price : ℕ) (row : Row) (issue : Issue) (picked_count : Option ℕ) → Kept t → RowIsInRange row → AskIsInRange ask → IssueFits price row ask issue → row_of t row.serial ≡ Some row → order_of t id ≡ None
      → pick (next issue.row.key) issue.row.start issue.row.limit issue.row.last issue.kind issue.value ≡ picked_count → GoesWell t (issued_at next t id ask issue picked_count).tables
  issued_at_well t id ask price row issue None kept in_range asked fits is none pick_is = stays_well t kept
  issued_at_well t id ask price row issue (Some count) kept in_range asked fits is none pick_is =
      let got = picked (next issue.row.key) issue.row.start issue.row.limit issue.row.last issue.kind issue.value count pick_is in
      let high : issue.row.last < count = got.above in
      let same : issue.row.last ≡ row.last = fits.last in
      issue_well t id ask price row issue count kept in_range asked fits is none (omega arith) (at_limit count issue.row.limit row.limit got.within fits.limit)

  issued_well : (t : Tables) (id : List ℕ) (ask : Ask) (row : Row) (what : Result Issue Answer) → offered t row ask ≡ what → Kept t → RowIsInRange row → AskIsInRange ask → row_of t row.serial ≡ Some row → order_of t id ≡ None → GoesWell t (issued next t id ask what).tables
  issued_well t id ask row (Err refusal) what_is kept in_range asked is none = stays_well t kept
  issued_well t id ask row (Ok issue) what_is kept in_range asked is none =
      issued_at_well t id ask (price_at t row (row.last + 1)) row issue (pick (next issue.row.key) issue.row.start issue.row.limit issue.row.last issue.kind issue.value) kept in_range asked (issue_fits (price_at t row (row.last + 1)) (price_in_range t row (row.last + 1) kept in_range) row in_range ask issue asked what_is) is none refl

  asked_of_well : (t : Tables) (id serial : List ℕ) (ask : Ask) (row : Row) (found : Option Order) → order_of t id ≡ found → Kept t → RowIsInRange row → AskIsInRange ask → row_of t row.serial ≡ Some row → GoesWell t (asked_of next t id serial ask row found).tables
  asked_of_well t id serial ask row (Some order) found_is kept in_range asked is = stays_well t kept
  asked_of_well t id serial ask row None found_is kept in_range asked is = issued_well t id ask row (offered t row ask) refl kept in_range asked is found_is

  asked_well : (t : Tables) (id serial : List ℕ) (ask : Ask) (found : Option Row) → row_of t serial ≡ found → Kept t → AskIsInRange ask → GoesWell t (asked next t id serial ask found).tables
  asked_well t id serial ask None found_is kept asked = stays_well t kept
  asked_well t id serial ask (Some row) found_is kept asked =
      asked_of_well t id serial ask row (order_of t id) refl kept (row_kept t.rows serial row kept.rows found_is) asked (row_found_again t.rows serial row found_is)

  enrolled_well : (t : Tables) (enrol : Enrol) (found : Option Row) → row_of t enrol.serial ≡ found → Kept t → EnrolIsInRange enrol → GoesWell t (enrolled t enrol found).tables
  enrolled_well t enrol None found_is kept in_range = record { kept = kept_with_row (new_row enrol) t (new_row_fits enrol in_range) found_is kept; later = later_with_row (new_row enrol) t found_is }
  enrolled_well t enrol (Some row) found_is kept in_range = stays_well t kept

  raised_at_well : (t : Tables) (row : Row) (low : Bool) → Kept t → RowIsInRange row → row_of t row.serial ≡ Some row → GoesWell t (raised_at t row low).tables
  raised_at_well t row true kept in_range is = subst (λ (o : Option Row). GoesWell t (raised_by o t)) (sym is) record { kept = kept_raised row t is in_range kept; later = later_raised row t is in_range }
  raised_at_well t row false kept in_range is = stays_well t kept

  raises_well : (t : Tables) (serial : List ℕ) (found : Option Row) → row_of t serial ≡ found → Kept t → GoesWell t (raises t found).tables
  raises_well t serial None found_is kept = stays_well t kept
  raises_well t serial (Some row) found_is kept = raised_at_well t row (row.limit == LAST) kept (row_kept t.rows serial row kept.rows found_is) (row_found_again t.rows serial row found_is)

  lifted_at_well : (t : Tables) (to : ℕ) (row : Row) (within : Bool) → nat_le to row.limit ≡ within → row.last < to → Kept t → RowIsInRange row → row_of t row.serial ≡ Some row → GoesWell t (lifted_at t to row within).tables
  lifted_at_well t to row true within above kept in_range is =
      let low : to ≤ row.limit = leb-true to row.limit within in
      subst (λ (o : Option Row). GoesWell t (lifted_by to o t)) (sym is) record { kept = kept_lifted to row t above low is in_range kept; later = later_lifted to row t above is }
  lifted_at_well t to row false within above kept in_range is = stays_well t kept

  skipped_at_well : (t : Tables) (to : ℕ) (row : Row) (above : Bool) → nat_lt row.last to ≡ above → Kept t → RowIsInRange row → row_of t row.serial ≡ Some row → GoesWell t (skipped_at t to row above).tables
  skipped_at_well t to row true above kept in_range is = lifted_at_well t to row (nat_le to row.limit) refl (ltb-true row.last to above) kept in_range is
  skipped_at_well t to row false above kept in_range is = stays_well t kept

  skipped_well : (t : Tables) (to : ℕ) (serial : List ℕ) (found : Option Row) → row_of t serial ≡ found → Kept t → GoesWell t (skipped t to found).tables
  skipped_well t to serial None found_is kept = stays_well t kept
  skipped_well t to serial (Some row) found_is kept = skipped_at_well t to row (nat_lt row.last to) refl kept (row_kept t.rows serial row kept.rows found_is) (row_found_again t.rows serial row found_is)

  changed_at_well : (t : Tables) (change : PriceChange) (row : Row) (newest : Bool) → Kept t → ChangeIsInRange change → row_of t change.serial ≡ Some row → change_of t change.serial change.from ≡ None → GoesWell t (changed_at t change row newest).tables
  changed_at_well t change row true kept in_range is none = record { kept = kept_with_change change t in_range none (some_by (Some row) (row_of t change.serial) is refl) kept; later = later_with_change change t none }
  changed_at_well t change row false kept in_range is none = stays_well t kept

  changed_of_well : (t : Tables) (change : PriceChange) (row : Row) (found : Option PriceChange) → change_of t change.serial change.from ≡ found → Kept t → ChangeIsInRange change → row_of t change.serial ≡ Some row → GoesWell t (changed_of t change row found).tables
  changed_of_well t change row (Some old) found_is kept in_range is = stays_well t kept
  changed_of_well t change row None found_is kept in_range is = changed_at_well t change row (change.from == row.last) kept in_range is found_is

  repriced_well : (t : Tables) (change : PriceChange) (found : Option Row) → row_of t change.serial ≡ found → Kept t → ChangeIsInRange change → GoesWell t (repriced t change found).tables
  repriced_well t change None found_is kept in_range = stays_well t kept
  repriced_well t change (Some row) found_is kept in_range = changed_of_well t change row (change_of t change.serial change.from) refl kept in_range found_is

  -- a command leaves the tables in order, and later than they were
  pub done_well : (t : Tables) (command : Command) → Kept t → IsCommand command → GoesWell t (done next t command).tables
  done_well t (command_is.Enroll enrol) kept may = enrolled_well t enrol (row_of t enrol.serial) refl kept may
  done_well t (command_is.Pay id serial amount) kept may = asked_well t id serial (asks.Pay amount) (row_of t serial) refl kept may
  done_well t (command_is.Set id serial units) kept may = asked_well t id serial (asks.Set units) (row_of t serial) refl kept may
  done_well t (command_is.Disable id serial) kept may = asked_well t id serial asks.Disable (row_of t serial) refl kept tt
  done_well t (command_is.Sync id serial) kept may = asked_well t id serial asks.Sync (row_of t serial) refl kept tt
  done_well t (command_is.Order id) kept may = stays_well t kept
  done_well t (command_is.Show serial) kept may = stays_well t kept
  done_well t (command_is.Raise serial) kept may = raises_well t serial (row_of t serial) refl kept
  done_well t (command_is.Price serial from price) kept may = repriced_well t (change_to serial from price) (row_of t serial) refl kept may
  done_well t (command_is.Quote serial amount) kept may = stays_well t kept
  done_well t (command_is.Skip serial to) kept may = skipped_well t to serial (row_of t serial) refl kept

  asked_step : (t new : Tables) (command : Command) (answer : Option Answer) → Kept t → IsCommand command → Asked next t command answer new → GoesWell t new
  asked_step t new command answer kept may (inl whole) = subst (λ (u : Tables). GoesWell t u) (sym whole.1) (done_well t command kept may)
  asked_step t new command answer kept may (inr (none, inl same)) = subst (λ (u : Tables). GoesWell t u) (sym same) (stays_well t kept)
  asked_step t new command answer kept may (inr (none, inr whole)) = subst (λ (u : Tables). GoesWell t u) (sym whole) (done_well t command kept may)

  -- and so does a run of commands
  pub run_well : (commands : List Command) (answers : List (Option Answer)) (old new : Tables) → Kept old → Runs next old commands answers new → GoesWell old new
  run_well [] [] old new kept runs = subst (λ (u : Tables). GoesWell old u) (sym runs) (stays_well old kept)
  run_well [] (answer ∷ answers) old new kept runs = absurd runs
  run_well (command ∷ commands) [] old new kept runs = absurd runs
  run_well (command ∷ commands) (answer ∷ answers) old new kept runs =
      let one = asked_step old runs.0 command answer kept runs.1 runs.2 in
      let rest = run_well commands answers runs.0 new one.kept runs.3 in
      record { kept = rest.kept; later = later_then old runs.0 new one.later rest.later }
