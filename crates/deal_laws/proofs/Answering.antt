-- An order that answers a command is one for it.
use Rattle.std.proofs.Common.{◌≡◌, ℕ, ◌+◌, ◌/◌, ◌%◌, ◌==◌, nat_le, nat_lt, Bool, true, false, cond, List, Option, Some, None, Result, Ok, Err, refl, ap, subst, ◌∙◌, eqb-true}
use Rattle.std.proofs.lemmas.Bool.{and_parts}
use Rattle.paygo_spec.specs.declared.Form.{Form}
use Rattle.paygo_spec.specs.declared.TheConstants.{LAST}
use Rattle.ledger_spec.specs.declared.Answer.{Answer}
use Rattle.ledger_spec.specs.declared.Answer.TheVariants as answer_is
use Rattle.ledger_spec.specs.declared.Ask.{Ask}
use Rattle.ledger_spec.specs.declared.Ask.TheVariants as asks
use Rattle.ledger_spec.specs.declared.Command.{Command}
use Rattle.ledger_spec.specs.declared.Command.TheVariants as command_is
use Rattle.ledger_spec.specs.declared.Enrol.{Enrol}
use Rattle.ledger_spec.specs.declared.Issue.{Issue}
use Rattle.ledger_spec.specs.declared.Kind.TheVariants as kind_is
use Rattle.ledger_spec.specs.declared.Order.{Order}
use Rattle.ledger_spec.specs.declared.PriceChange.{PriceChange}
use Rattle.ledger_spec.specs.declared.Row.{Row}
use Rattle.ledger_spec.specs.Ledger.{done, same_ask, agrees, buys, pays, issue_for, offered, order_at, issued, issued_at, is_retry, form_for, asked, asked_of, enrolled, told_order, told_row, raises, raised_at, repriced, changed_of, changed_at, change_to, quoted, quoted_for, quoted_at, skipped, skipped_at, lifted_at, IsCommand}
use Rattle.ledger_spec.specs.Issuing.{pick}
use Rattle.ledger_spec.specs.Names.{same_name}
use Rattle.ledger_spec.specs.Tables.{Tables, row_of, order_of, change_of, price_at, AskIsInRange, Kept}
use Rattle.ledger_spec.proofs.IssueLemmas.{issue_fits}
use Rattle.ledger_spec.proofs.KeptLemmas.{row_kept}
use Rattle.ledger_spec.proofs.Lookups.{found_serial}
use Rattle.ledger_spec.proofs.NameLemmas.{same_is}
use Rattle.ledger_spec.proofs.PriceLemmas.{price_in_range}
use Rattle.ledger_laws.proofs.Retries.{found_id}
use Rattle.deal_laws.specs.Meaning.{IsFor}

-- An order for this id, device and ask.
abbrev IsOf : List ℕ → List ℕ → Ask → Order → Type 0
IsOf id serial ask order = (order.id ≡ id) × (order.serial ≡ serial) × (order.ask ≡ ask)

one_ask : (a b : Ask) → same_ask a b ≡ true → a ≡ b
one_ask (asks.Pay a) (asks.Pay b) e = ap (λ n. asks.Pay n) (eqb-true a b e)
one_ask (asks.Set a) (asks.Set b) e = ap (λ n. asks.Set n) (eqb-true a b e)
one_ask asks.Disable asks.Disable e = refl
one_ask asks.Sync asks.Sync e = refl
one_ask _ _ e = absurd (no_test e)
  where
    no_test : false ≡ true → ⊥
    no_test e = cc

one_order : (a b : Order) (f g : Form) → answer_is.Order a f ≡ answer_is.Order b g → a ≡ b
one_order a b f g e = cc

abbrev refused : Answer → Result Issue Answer
refused answer = Err answer

-- a refusal is no order
buys_none : (price : ℕ) (row : Row) (amount have : ℕ) (order : Order) (form : Form) → buys price row amount have ≡ refused (answer_is.Order order form) → ⊥
buys_none price row amount have order form is = (elim (nat_lt have price) as (λ t. cond t (Err (answer_is.Small have price)) (cond (nat_lt 995 (have / price)) (Err (answer_is.Large (have / price))) (Ok record { kind = kind_is.Add; value = have / price; row = record row { paid = row.paid + amount; rest = have % price } })) ≡ refused (answer_is.Order order form) → ⊥) [
  | true ↦ λ is. cc
  | false ↦ λ is. (elim (nat_lt 995 (have / price)) as (λ t. cond t (Err (answer_is.Large (have / price))) (Ok record { kind = kind_is.Add; value = have / price; row = record row { paid = row.paid + amount; rest = have % price } }) ≡ refused (answer_is.Order order form) → ⊥) [
    | true ↦ λ is. cc
    | false ↦ λ is. cc
  ]) is
]) is

pays_none : (price : ℕ) (row : Row) (amount : ℕ) (order : Order) (form : Form) → pays price row amount ≡ refused (answer_is.Order order form) → ⊥
pays_none price row amount order form is = (elim (row.closed) as (λ t. cond t (Err (answer_is.Closed row.paid)) (cond (nat_lt (row.paid + amount) row.total) (buys price row amount (row.rest + amount)) (Ok record { kind = kind_is.Disable; value = 998; row = record row { paid = row.paid + amount; rest = 0; closed = true } })) ≡ refused (answer_is.Order order form) → ⊥) [
  | true ↦ λ is. cc
  | false ↦ λ is. (elim (nat_lt (row.paid + amount) row.total) as (λ t. cond t (buys price row amount (row.rest + amount)) (Ok record { kind = kind_is.Disable; value = 998; row = record row { paid = row.paid + amount; rest = 0; closed = true } }) ≡ refused (answer_is.Order order form) → ⊥) [
    | true ↦ λ is. buys_none price row amount (row.rest + amount) order form is
    | false ↦ λ is. cc
  ]) is
]) is

issues_none : (price : ℕ) (row : Row) (ask : Ask) (order : Order) (form : Form) → issue_for price row ask ≡ refused (answer_is.Order order form) → ⊥
issues_none price row (asks.Pay amount) order form is = pays_none price row amount order form is
issues_none price row (asks.Set units) order form is = cc
issues_none price row asks.Disable order form is = cc
issues_none price row asks.Sync order form is = cc

module _ (next : List ℕ → ℕ → ℕ) (t : Tables) (order : Order) (form : Form) where
  abbrev Answers : Answer → Type 0
  Answers answer = answer ≡ answer_is.Order order form

  -- an order that was sold before
  kept_for : (id serial : List ℕ) (ask : Ask) (row : Row) (kept : Order) → order_of t id ≡ Some kept → Answers (asked_of next t id serial ask row (Some kept)).answer → IsOf id serial ask order
  kept_for id serial ask row kept found e = (elim (is_retry serial ask kept) as (λ b. is_retry serial ask kept ≡ b → cond b (answer_is.Order kept (form_for t kept)) (answer_is.IdUsed kept (form_for t kept)) ≡ answer_is.Order order form → IsOf id serial ask order) [
    | true ↦ λ retry is.
        let parts = and_parts (same_name kept.serial serial) (same_ask kept.ask ask) retry in
        subst (λ (o : Order). IsOf id serial ask o) (one_order kept order (form_for t kept) form is) (found_id t.orders id kept found, same_is kept.serial serial parts.0, one_ask kept.ask ask parts.1)
    | false ↦ λ retry is. absurd (let bad : answer_is.IdUsed kept (form_for t kept) ≡ answer_is.Order order form = is in cc)
  ]) refl e

  -- a new one
  new_for : (id serial : List ℕ) (ask : Ask) (issue : Issue) (count : Option ℕ) → issue.row.serial ≡ serial → Answers (issued_at next t id ask issue count).answer → IsOf id serial ask order
  new_for id serial ask issue None own e = cc
  new_for id serial ask issue (Some count) own e =
      subst (λ (o : Order). IsOf id serial ask o) (one_order (order_at next id ask issue count) order issue.row.form form e) (refl, own, refl)

  issued_for : (id serial : List ℕ) (ask : Ask) (row : Row) (what : Result Issue Answer) → offered t row ask ≡ what → Kept t → row_of t serial ≡ Some row → AskIsInRange ask → Answers (issued next t id ask what).answer → IsOf id serial ask order
  issued_for id serial ask row (Err refusal) what_is kept row_is asked e =
      absurd (issues_none (price_at t row (row.last + 1)) row ask order form (what_is ∙ ap (λ (a : Answer). refused a) e))
  issued_for id serial ask row (Ok issue) what_is kept row_is asked e =
      let in_range = row_kept t.rows serial row kept.rows row_is in
      let fits = issue_fits (price_at t row (row.last + 1)) (price_in_range t row (row.last + 1) kept in_range) row in_range ask issue asked what_is in
      new_for id serial ask issue (pick (next issue.row.key) issue.row.start issue.row.limit issue.row.last issue.kind issue.value) (fits.serial ∙ found_serial t.rows serial row row_is) e

  row_for : (id serial : List ℕ) (ask : Ask) (row : Row) (found : Option Order) → order_of t id ≡ found → Kept t → row_of t serial ≡ Some row → AskIsInRange ask → Answers (asked_of next t id serial ask row found).answer → IsOf id serial ask order
  row_for id serial ask row (Some kept) found_is in_order row_is asked e = kept_for id serial ask row kept found_is e
  row_for id serial ask row None found_is in_order row_is asked e = issued_for id serial ask row (offered t row ask) refl in_order row_is asked e

  asked_for : (id serial : List ℕ) (ask : Ask) (found : Option Row) → row_of t serial ≡ found → Kept t → AskIsInRange ask → Answers (asked next t id serial ask found).answer → IsOf id serial ask order
  asked_for id serial ask None found_is in_order asked e = cc
  asked_for id serial ask (Some row) found_is in_order asked e = row_for id serial ask row (order_of t id) refl in_order found_is asked e

  -- the other commands answer with no order
  row_no : (agreed : Bool) (row : Row) → Answers (cond agreed (answer_is.Row row) (answer_is.SerialUsed row)) → ⊥
  row_no true row e = cc
  row_no false row e = cc

  enrol_no : (enrol : Enrol) (found : Option Row) → Answers (enrolled t enrol found).answer → ⊥
  enrol_no enrol None e = cc
  enrol_no enrol (Some row) e = row_no (agrees enrol row) row e

  told_for : (id : List ℕ) (found : Option Order) → order_of t id ≡ found → Answers (told_order t found) → order.id ≡ id
  told_for id None found_is e = cc
  told_for id (Some kept) found_is e = subst (λ (o : Order). o.id ≡ id) (one_order kept order (form_for t kept) form e) (found_id t.orders id kept found_is)

  show_no : (found : Option Row) → Answers (told_row found) → ⊥
  show_no None e = cc
  show_no (Some row) e = cc

  raised_no : (row : Row) (low : Bool) → Answers (raised_at t row low).answer → ⊥
  raised_no row true e = cc
  raised_no row false e = cc

  raises_no : (found : Option Row) → Answers (raises t found).answer → ⊥
  raises_no None e = cc
  raises_no (Some row) e = raised_no row (row.limit == LAST) e

  price_no : (same : Bool) (kept : PriceChange) → Answers (cond same (answer_is.Price kept) (answer_is.PriceUsed kept.price)) → ⊥
  price_no true kept e = cc
  price_no false kept e = cc

  changed_no : (change : PriceChange) (row : Row) (newest : Bool) → Answers (changed_at t change row newest).answer → ⊥
  changed_no change row true e = cc
  changed_no change row false e = cc

  kept_no : (change : PriceChange) (row : Row) (found : Option PriceChange) → Answers (changed_of t change row found).answer → ⊥
  kept_no change row (Some kept) e = price_no (kept.price == change.price) kept e
  kept_no change row None e = changed_no change row (change.from == row.last) e

  reprice_no : (change : PriceChange) (found : Option Row) → Answers (repriced t change found).answer → ⊥
  reprice_no change None e = cc
  reprice_no change (Some row) e = kept_no change row (change_of t change.serial change.from) e

  quoted_at_no : (row : Row) (issue : Issue) (count : Option ℕ) → Answers (quoted_at row issue count) → ⊥
  quoted_at_no row issue None e = cc
  quoted_at_no row issue (Some count) e = cc

  quoted_for_no : (row : Row) (ask : Ask) (what : Result Issue Answer) → offered t row ask ≡ what → Answers (quoted_for next row what) → ⊥
  quoted_for_no row ask (Err refusal) what_is e =
      issues_none (price_at t row (row.last + 1)) row ask order form (what_is ∙ ap (λ (a : Answer). refused a) e)
  quoted_for_no row ask (Ok issue) what_is e = quoted_at_no row issue (pick (next issue.row.key) issue.row.start issue.row.limit issue.row.last issue.kind issue.value) e

  quoted_no : (amount : ℕ) (found : Option Row) → Answers (quoted next t amount found) → ⊥
  quoted_no amount None e = cc
  quoted_no amount (Some row) e = quoted_for_no row (asks.Pay amount) (offered t row (asks.Pay amount)) refl e

  lifted_no : (to : ℕ) (row : Row) (within : Bool) → Answers (lifted_at t to row within).answer → ⊥
  lifted_no to row true e = cc
  lifted_no to row false e = cc

  skipped_row_no : (to : ℕ) (row : Row) (above : Bool) → Answers (skipped_at t to row above).answer → ⊥
  skipped_row_no to row true e = lifted_no to row (nat_le to row.limit) e
  skipped_row_no to row false e = cc

  skipped_no : (to : ℕ) (found : Option Row) → Answers (skipped t to found).answer → ⊥
  skipped_no to None e = cc
  skipped_no to (Some row) e = skipped_row_no to row (nat_lt row.last to) e

  pub answers_for : (command : Command) → Kept t → IsCommand command → Answers (done next t command).answer → IsFor command order
  answers_for (command_is.Enroll enrol) kept may e = absurd (enrol_no enrol (row_of t enrol.serial) e)
  answers_for (command_is.Pay id serial amount) kept may e = asked_for id serial (asks.Pay amount) (row_of t serial) refl kept may e
  answers_for (command_is.Set id serial units) kept may e = asked_for id serial (asks.Set units) (row_of t serial) refl kept may e
  answers_for (command_is.Disable id serial) kept may e = asked_for id serial asks.Disable (row_of t serial) refl kept tt e
  answers_for (command_is.Sync id serial) kept may e = asked_for id serial asks.Sync (row_of t serial) refl kept tt e
  answers_for (command_is.Order id) kept may e = told_for id (order_of t id) refl e
  answers_for (command_is.Show serial) kept may e = absurd (show_no (row_of t serial) e)
  answers_for (command_is.Raise serial) kept may e = absurd (raises_no (row_of t serial) e)
  answers_for (command_is.Price serial from price) kept may e = absurd (reprice_no (change_to serial from price) (row_of t serial) e)
  answers_for (command_is.Quote serial amount) kept may e = absurd (quoted_no amount (row_of t serial) e)
  answers_for (command_is.Skip serial to) kept may e = absurd (skipped_no to (row_of t serial) e)
