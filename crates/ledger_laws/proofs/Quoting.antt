-- A quote foretells the payment that follows it.
use Rattle.std.proofs.Common.{◌≡◌, ℕ, ◌+◌, ◌/◌, ◌%◌, List, [], ◌∷◌, Bool, true, false, ◌==◌, Option, Some, None, Result, Ok, Err, cond, nat_lt, refl, sym, ap, subst, ◌∙◌}
use Rattle.std.specs.Prelude.{nat_le}
use Rattle.paygo_spec.specs.declared.Form.{Form}
use Rattle.paygo_spec.specs.declared.Entry.{Entry}
use Rattle.paygo_spec.specs.History.{Summary, top, limit_of, reach}
use Rattle.ledger_spec.specs.declared.Row.{Row}
use Rattle.ledger_spec.specs.declared.Order.{Order}
use Rattle.ledger_spec.specs.declared.Quote.{Quote}
use Rattle.ledger_spec.specs.declared.Ask.{Ask}
use Rattle.ledger_spec.specs.declared.Ask.TheVariants as asks
use Rattle.ledger_spec.specs.declared.Kind.TheVariants as kind_is
use Rattle.ledger_spec.specs.declared.Answer.{Answer}
use Rattle.ledger_spec.specs.declared.Answer.TheVariants as answer_is
use Rattle.ledger_spec.specs.declared.Issue.{Issue}
use Rattle.ledger_spec.specs.Tables.{Tables, row_of, order_of, row_in, with_order, price_at, Kept, RowIsInRange, AskIsInRange}
use Rattle.ledger_spec.specs.Issuing.{pick, reach_from, is_near}
use Rattle.ledger_spec.specs.Ledger.{Done, stays, asked, asked_of, issued, issued_at, issue_for, offered, pays, buys, order_at, row_at, quoted, quoted_for, quoted_at}
use Rattle.ledger_spec.proofs.Lookups.{found_serial, row_found_again, row_same}
use Rattle.ledger_spec.proofs.KeptLemmas.{row_kept}
use Rattle.ledger_spec.proofs.IssueLemmas.{IssueFits, issue_fits}
use Rattle.ledger_spec.proofs.PriceLemmas.{price_in_range}
use Rattle.ledger_laws.specs.Quotes.{Foretells}

abbrev refused : Answer → Result Issue Answer
refused answer = Err answer

-- a refusal is no quote
buys_no_quote : (price : ℕ) (row : Row) (amount have : ℕ) (quote : Quote) → buys price row amount have ≡ refused (answer_is.Quote quote) → ⊥
buys_no_quote price row amount have quote is = (elim (nat_lt have price) as (λ t. cond t (Err (answer_is.Small have price)) (cond (nat_lt 995 (have / price)) (Err (answer_is.Large (have / price))) (Ok record { kind = kind_is.Add; value = have / price; row = record row { paid = row.paid + amount; rest = have % price } })) ≡ refused (answer_is.Quote quote) → ⊥) [
  | true ↦ λ is. cc
  | false ↦ λ is. (elim (nat_lt 995 (have / price)) as (λ t. cond t (Err (answer_is.Large (have / price))) (Ok record { kind = kind_is.Add; value = have / price; row = record row { paid = row.paid + amount; rest = have % price } }) ≡ refused (answer_is.Quote quote) → ⊥) [
    | true ↦ λ is. cc
    | false ↦ λ is. cc
  ]) is
]) is

pays_no_quote : (price : ℕ) (row : Row) (amount : ℕ) (quote : Quote) → pays price row amount ≡ refused (answer_is.Quote quote) → ⊥
pays_no_quote price row amount quote is = (elim (row.closed) as (λ t. cond t (Err (answer_is.Closed row.paid)) (cond (nat_lt (row.paid + amount) row.total) (buys price row amount (row.rest + amount)) (Ok record { kind = kind_is.Disable; value = 998; row = record row { paid = row.paid + amount; rest = 0; closed = true } })) ≡ refused (answer_is.Quote quote) → ⊥) [
  | true ↦ λ is. cc
  | false ↦ λ is. (elim (nat_lt (row.paid + amount) row.total) as (λ t. cond t (buys price row amount (row.rest + amount)) (Ok record { kind = kind_is.Disable; value = 998; row = record row { paid = row.paid + amount; rest = 0; closed = true } }) ≡ refused (answer_is.Quote quote) → ⊥) [
    | true ↦ λ is. buys_no_quote price row amount (row.rest + amount) quote is
    | false ↦ λ is. cc
  ]) is
]) is

-- a refusal of a payment is what is done with it
refusal_stays : (t : Tables) (serial : List ℕ) (price : ℕ) (row : Row) (amount : ℕ) (refusal : Answer) → pays price row amount ≡ refused refusal → Foretells t serial refusal (stays t refusal)
refusal_stays t serial price row amount (answer_is.Quote quote) is = absurd (pays_no_quote price row amount quote is)
refusal_stays t serial price row amount (answer_is.Order order form) is = refl
refusal_stays t serial price row amount (answer_is.Row r) is = refl
refusal_stays t serial price row amount answer_is.NoDevice is = refl
refusal_stays t serial price row amount (answer_is.IdUsed order form) is = refl
refusal_stays t serial price row amount (answer_is.SerialUsed r) is = refl
refusal_stays t serial price row amount (answer_is.Closed paid) is = refl
refusal_stays t serial price row amount (answer_is.Small have cost) is = refl
refusal_stays t serial price row amount (answer_is.Large units) is = refl
refusal_stays t serial price row amount (answer_is.NoCount last) is = refl
refusal_stays t serial price row amount answer_is.NoOrder is = refl
refusal_stays t serial price row amount (answer_is.Price change) is = refl
refusal_stays t serial price row amount (answer_is.PriceUsed cost) is = refl
refusal_stays t serial price row amount (answer_is.Stale last) is = refl
refusal_stays t serial price row amount (answer_is.Beyond limit) is = refl

module _ (next : List ℕ → ℕ → ℕ) where
  foretold_at : (t : Tables) (id serial : List ℕ) (amount : ℕ) (row : Row) (issue : Issue) (found : Option ℕ) → IssueFits (price_at t row (row.last + 1)) row (asks.Pay amount) issue → row_of t serial ≡ Some row
      → Foretells t serial (quoted_at row issue found) (issued_at next t id (asks.Pay amount) issue found)
  foretold_at t id serial amount row issue None fits is = refl
  foretold_at t id serial amount row issue (Some count) fits is =
      let made : Order = order_at next id (asks.Pay amount) issue count in
      let kept : Row = row_at issue count in
      let own : issue.row.serial ≡ serial = fits.serial ∙ found_serial t.rows serial row is in
      let before : row_of t issue.row.serial ≡ Some row = ap (λ s. row_of t s) own ∙ is in
      let now : row_of (with_order made kept t) issue.row.serial ≡ Some kept = row_same kept t.rows row before in
      (made, issue.row.form, kept, refl, fits.serial, refl, refl, refl, ap (λ s. row_of (with_order made kept t) s) (sym own) ∙ now, refl)

  foretold_for : (t : Tables) (id serial : List ℕ) (amount : ℕ) (row : Row) (what : Result Issue Answer) → offered t row (asks.Pay amount) ≡ what → Kept t → RowIsInRange row → AskIsInRange (asks.Pay amount) → row_of t serial ≡ Some row
      → Foretells t serial (quoted_for next row what) (issued next t id (asks.Pay amount) what)
  foretold_for t id serial amount row (Err refusal) what_is kept in_range asked is = refusal_stays t serial (price_at t row (row.last + 1)) row amount refusal what_is
  foretold_for t id serial amount row (Ok issue) what_is kept in_range asked is =
      foretold_at t id serial amount row issue (pick (next issue.row.key) issue.row.start issue.row.limit issue.row.last issue.kind issue.value)
      (issue_fits (price_at t row (row.last + 1)) (price_in_range t row (row.last + 1) kept in_range) row in_range (asks.Pay amount) issue asked what_is) is

  foretold_of : (t : Tables) (id serial : List ℕ) (amount : ℕ) (found : Option Row) → row_of t serial ≡ found → Kept t → AskIsInRange (asks.Pay amount) → order_of t id ≡ None
      → Foretells t serial (quoted next t amount found) (asked next t id serial (asks.Pay amount) found)
  foretold_of t id serial amount None found_is kept asked none = refl
  foretold_of t id serial amount (Some row) found_is kept asked none =
      subst (λ (o : Option Order). Foretells t serial (quoted_for next row (offered t row (asks.Pay amount))) (asked_of next t id serial (asks.Pay amount) row o)) (sym none)
      (foretold_for t id serial amount row (offered t row (asks.Pay amount)) refl kept (row_kept t.rows serial row kept.rows found_is) asked found_is)

  pub foretold : (t : Tables) (id serial : List ℕ) (amount : ℕ) → Kept t → AskIsInRange (asks.Pay amount) → order_of t id ≡ None
      → Foretells t serial (quoted next t amount (row_of t serial)) (asked next t id serial (asks.Pay amount) (row_of t serial))
  foretold t id serial amount kept asked none = foretold_of t id serial amount (row_of t serial) refl kept asked none

-- a count is near exactly where a device with that last count and limit has it in reach
pub near_is : (start : Summary) (entries : List Entry) (limit last value count : ℕ) → limit_of start entries ≡ limit → top start entries ≡ last → is_near limit last value count ≡ nat_le count (reach start entries value)
near_is start entries limit last value count limit_is last_is =
    ap (λ l. nat_le count (reach_from l last value)) (sym limit_is) ∙ ap (λ l. nat_le count (reach_from (limit_of start entries) l value)) (sym last_is)
