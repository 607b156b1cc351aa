-- An order is answered again, whatever was asked of the ledger since.
use Rattle.std.proofs.Common.{◌==◌, [], ◌∷◌, ◌≡◌, ℕ, List, Bool, true, false, Option, Some, None, Result, Ok, Err, cond, unwrap_or, refl, sym, ap, subst, ◌∙◌, nat_lt, ◌/◌, ◌%◌, ◌+◌}
use Rattle.std.specs.Option.{option_map}
use Rattle.std.specs.Prelude.{nat_le}
use Rattle.std.proofs.lemmas.Bool.{and_from, eq-eqb}
use Rattle.paygo_spec.specs.declared.Form.{Form}
use Rattle.paygo_spec.specs.declared.Form.TheVariants.{Nine}
use Rattle.paygo_spec.specs.declared.TheConstants.{LAST}
use Rattle.ledger_spec.specs.declared.PriceChange.{PriceChange}
use Rattle.ledger_spec.specs.declared.Row.{Row}
use Rattle.ledger_spec.specs.declared.Order.{Order}
use Rattle.ledger_spec.specs.declared.Ask.{Ask}
use Rattle.ledger_spec.specs.declared.Ask.TheVariants as asks
use Rattle.ledger_spec.specs.declared.Kind.TheVariants as kind_is
use Rattle.ledger_spec.specs.declared.Answer.{Answer}
use Rattle.ledger_spec.specs.declared.Answer.TheVariants as answer_is
use Rattle.ledger_spec.specs.declared.Issue.{Issue}
use Rattle.ledger_spec.specs.declared.Enrol.{Enrol}
use Rattle.ledger_spec.specs.declared.Command.{Command}
use Rattle.ledger_spec.specs.declared.Command.TheVariants as command_is
use Rattle.ledger_spec.specs.Names.{same_name}
use Rattle.ledger_spec.specs.Tables.{Tables, row_of, order_of, order_in, form_in, with_order, price_at, change_of, RowIsInRange, AskIsInRange, Kept}
use Rattle.ledger_spec.specs.Issuing.{pick}
use Rattle.ledger_spec.specs.Ledger.{done, stays, enrolled, agrees, asked, asked_of, issued, issued_at, issue_for, offered, raises, raised_at, repriced, changed_of, changed_at, change_to, quoted, quoted_for, quoted_at, skipped, skipped_at, lifted_at, pays, buys, order_at, row_at, is_retry, same_ask, form_for, told_order, told_row, IsCommand}
use Rattle.ledger_spec.proofs.NameLemmas.{same_is, is_same, self_same}
use Rattle.ledger_spec.proofs.Lookups.{found_serial, row_same}
use Rattle.ledger_spec.proofs.KeptLemmas.{some_is, order_kept, row_kept}
use Rattle.ledger_spec.proofs.IssueLemmas.{IssueFits, issue_fits}
use Rattle.ledger_spec.proofs.PriceLemmas.{price_in_range}
use Rattle.ledger_spec.specs.Sound.{StaysBelow}
use Rattle.ledger_laws.specs.Later.{Later, Runs}
use Rattle.ledger_laws.proofs.LaterLemmas.{done_well, run_well, later_still}

-- an ask is the same as itself
same_self : (ask : Ask) → same_ask ask ask ≡ true
same_self (asks.Pay amount) = eq-eqb amount amount refl
same_self (asks.Set units) = eq-eqb units units refl
same_self asks.Disable = refl
same_self asks.Sync = refl

abbrev refused : Answer → Result Issue Answer
refused answer = Err answer

-- a refusal is no order
buys_no_order : (price : ℕ) (row : Row) (amount have : ℕ) (order : Order) (form : Form) → buys price row amount have ≡ refused (answer_is.Order order form) → ⊥
buys_no_order price row amount have order form is = (elim (nat_lt have price) as (λ t. cond t (Err (answer_is.Small have price)) (cond (nat_lt 995 (have / price)) (Err (answer_is.Large (have / price))) (Ok record { kind = kind_is.Add; value = have / price; row = record row { paid = row.paid + amount; rest = have % price } })) ≡ refused (answer_is.Order order form) → ⊥) [
  | true ↦ λ is. cc
  | false ↦ λ is. (elim (nat_lt 995 (have / price)) as (λ t. cond t (Err (answer_is.Large (have / price))) (Ok record { kind = kind_is.Add; value = have / price; row = record row { paid = row.paid + amount; rest = have % price } }) ≡ refused (answer_is.Order order form) → ⊥) [
    | true ↦ λ is. cc
    | false ↦ λ is. cc
  ]) is
]) is

pays_no_order : (price : ℕ) (row : Row) (amount : ℕ) (order : Order) (form : Form) → pays price row amount ≡ refused (answer_is.Order order form) → ⊥
pays_no_order price row amount order form is = (elim (row.closed) as (λ t. cond t (Err (answer_is.Closed row.paid)) (cond (nat_lt (row.paid + amount) row.total) (buys price row amount (row.rest + amount)) (Ok record { kind = kind_is.Disable; value = 998; row = record row { paid = row.paid + amount; rest = 0; closed = true } })) ≡ refused (answer_is.Order order form) → ⊥) [
  | true ↦ λ is. cc
  | false ↦ λ is. (elim (nat_lt (row.paid + amount) row.total) as (λ t. cond t (buys price row amount (row.rest + amount)) (Ok record { kind = kind_is.Disable; value = 998; row = record row { paid = row.paid + amount; rest = 0; closed = true } }) ≡ refused (answer_is.Order order form) → ⊥) [
    | true ↦ λ is. buys_no_order price row amount (row.rest + amount) order form is
    | false ↦ λ is. cc
  ]) is
]) is

no_order : (price : ℕ) (row : Row) (ask : Ask) (order : Order) (form : Form) → issue_for price row ask ≡ refused (answer_is.Order order form) → ⊥
no_order price row (asks.Pay amount) order form is = pays_no_order price row amount order form is
no_order price row (asks.Set units) order form is = cc
no_order price row asks.Disable order form is = cc
no_order price row asks.Sync order form is = cc

-- An order is the answer to who asks this of a device by this id.
pub record IsAnswer (t : Tables) (id serial : List ℕ) (ask : Ask) (order : Order) (form : Form) : Type 0 where
  pub row : (row : Row) × (row_of t serial ≡ Some row)
  pub found : order_of t id ≡ Some order
  pub retry : is_retry serial ask order ≡ true
  pub form_is : form_in t order.serial ≡ Some form

form_row : (found : Option Row) (form : Form) → option_map (λ (row : Row). row.form) found ≡ Some form → (row : Row) × (found ≡ Some row) × (row.form ≡ form)
form_row None form is = cc
form_row (Some row) form is = let one : row.form ≡ form = cc in (row, refl, one)

-- the form of an order's device stays
form_later : (t later : Tables) (serial : List ℕ) (form : Form) → Later t later → form_in t serial ≡ Some form → form_in later serial ≡ Some form
form_later t later serial form goes is =
    let had = form_row (row_of t serial) form is in
    let now = goes.rows serial had.0 had.1 in
    ap (λ (o : Option Row). option_map (λ (row : Row). row.form) o) now.1 ∙ ap (λ (f : Form). Some f) (now.2.form ∙ had.2)

-- it is the answer later too
pub answer_later : (t later : Tables) (id serial : List ℕ) (ask : Ask) (order : Order) (form : Form) → Later t later → IsAnswer t id serial ask order form → IsAnswer later id serial ask order form
answer_later t later id serial ask order form goes is =
    let now = goes.rows serial is.row.0 is.row.1 in
    record {
      row = (now.0, now.1);
      found = goes.orders id order is.found;
      retry = is.retry;
      form_is = form_later t later order.serial form goes is.form_is;
    }

-- the order that is found has the id
pub found_id : (orders : List Order) (id : List ℕ) (order : Order) → order_in orders id ≡ Some order → order.id ≡ id
found_id [] id order is = cc
found_id (o ∷ orders) id order is = (elim (same_name o.id id) as (λ t. same_name o.id id ≡ t → cond t (Some o) (order_in orders id) ≡ Some order → order.id ≡ id) [
  | true ↦ λ same found. let one : o ≡ order = cc in ap (λ (x : Order). x.id) (sym one) ∙ same_is o.id id same
  | false ↦ λ same found. found_id orders id order found
]) refl is

module _ (next : List ℕ → ℕ → ℕ) where
  -- who asks is answered by it, and nothing changes
  pub asked_again : (t : Tables) (id serial : List ℕ) (ask : Ask) (order : Order) (form : Form) → IsAnswer t id serial ask order form → asked next t id serial ask (row_of t serial) ≡ stays t (answer_is.Order order form)
  asked_again t id serial ask order form is =
      ap (λ (o : Option Row). asked next t id serial ask o) is.row.1
      ∙ ap (λ (o : Option Order). asked_of next t id serial ask is.row.0 o) is.found
      ∙ ap (λ (b : Bool). stays t (cond b (answer_is.Order order (form_for t order)) (answer_is.IdUsed order (form_for t order)))) is.retry
      ∙ ap (λ (o : Option Form). stays t (answer_is.Order order (unwrap_or o Nine))) is.form_is

  -- a kept order that was answered is the answer
  kept_answer : (t : Tables) (id serial : List ℕ) (ask : Ask) (row : Row) (kept : Order) (order : Order) (form : Form) → Kept t → row_of t serial ≡ Some row → order_of t id ≡ Some kept
      → (asked_of next t id serial ask row (Some kept)).answer ≡ answer_is.Order order form → IsAnswer t id serial ask order form
  kept_answer t id serial ask row kept order form in_order row_is kept_is is = (elim (is_retry serial ask kept) as (λ b. is_retry serial ask kept ≡ b → cond b (answer_is.Order kept (form_for t kept)) (answer_is.IdUsed kept (form_for t kept)) ≡ answer_is.Order order form → IsAnswer t id serial ask order form) [
    | true ↦ λ retry is.
        let one : kept ≡ order = cc in
        let two : form_for t kept ≡ form = cc in
        let own = some_is (row_of t kept.serial) (order_kept t.rows t.orders id kept in_order.orders kept_is).1 in
        let own_form : form_in t kept.serial ≡ Some own.0.form = ap (λ (o : Option Row). option_map (λ (r : Row). r.form) o) own.1 in
        let same : own.0.form ≡ form = sym (ap (λ (o : Option Form). unwrap_or o Nine) own_form) ∙ two in
        record {
          row = (row, row_is);
          found = kept_is ∙ ap (λ (o : Order). Some o) one;
          retry = subst (λ (o : Order). is_retry serial ask o ≡ true) one retry;
          form_is = subst (λ (o : Order). form_in t o.serial ≡ Some form) one (own_form ∙ ap (λ (f : Form). Some f) same);
        }
    | false ↦ λ retry is. cc
  ]) refl is

  -- an order that was issued is the answer from then on
  new_answer : (t : Tables) (id serial : List ℕ) (ask : Ask) (row : Row) (issue : Issue) (count : ℕ) (order : Order) (form : Form) → IssueFits (price_at t row (row.last + 1)) row ask issue → row_of t serial ≡ Some row
      → (issued_at next t id ask issue (Some count)).answer ≡ answer_is.Order order form → IsAnswer (issued_at next t id ask issue (Some count)).tables id serial ask order form
  new_answer t id serial ask row issue count order form fits row_is is =
      let made : Order = order_at next id ask issue count in
      let kept : Row = row_at issue count in
      let new : Tables = with_order made kept t in
      let one : made ≡ order = cc in
      let two : issue.row.form ≡ form = cc in
      let own : issue.row.serial ≡ serial = fits.serial ∙ found_serial t.rows serial row row_is in
      let before : row_of t issue.row.serial ≡ Some row = ap (λ s. row_of t s) own ∙ row_is in
      let now : row_of new issue.row.serial ≡ Some kept = row_same kept t.rows row before in
      record {
        row = (kept, ap (λ s. row_of new s) (sym own) ∙ now);
        found = ap (λ (b : Bool). cond b (Some made) (order_of t id)) (self_same id) ∙ ap (λ (o : Order). Some o) one;
        retry = subst (λ (o : Order). is_retry serial ask o ≡ true) one (and_from (same_name issue.row.serial serial) (same_ask ask ask) (is_same issue.row.serial serial own) (same_self ask));
        form_is = subst (λ (o : Order). form_in new o.serial ≡ Some form) one (ap (λ (o : Option Row). option_map (λ (r : Row). r.form) o) now ∙ ap (λ (f : Form). Some f) two);
      }

  issued_at_answer : (t : Tables) (id serial : List ℕ) (ask : Ask) (row : Row) (issue : Issue) (found : Option ℕ) (order : Order) (form : Form) → IssueFits (price_at t row (row.last + 1)) row ask issue → row_of t serial ≡ Some row
      → (issued_at next t id ask issue found).answer ≡ answer_is.Order order form → IsAnswer (issued_at next t id ask issue found).tables id serial ask order form
  issued_at_answer t id serial ask row issue None order form fits row_is is = cc
  issued_at_answer t id serial ask row issue (Some count) order form fits row_is is = new_answer t id serial ask row issue count order form fits row_is is

  issued_answer : (t : Tables) (id serial : List ℕ) (ask : Ask) (row : Row) (what : Result Issue Answer) (order : Order) (form : Form) → offered t row ask ≡ what → Kept t → RowIsInRange row → AskIsInRange ask → row_of t serial ≡ Some row
      → (issued next t id ask what).answer ≡ answer_is.Order order form → IsAnswer (issued next t id ask what).tables id serial ask order form
  issued_answer t id serial ask row (Err refusal) order form what_is in_order in_range asked row_is is = absurd (no_order (price_at t row (row.last + 1)) row ask order form (what_is ∙ ap (λ (a : Answer). refused a) is))
  issued_answer t id serial ask row (Ok issue) order form what_is in_order in_range asked row_is is =
      issued_at_answer t id serial ask row issue (pick (next issue.row.key) issue.row.start issue.row.limit issue.row.last issue.kind issue.value) order form (issue_fits (price_at t row (row.last + 1)) (price_in_range t row (row.last + 1) in_order in_range) row in_range ask issue asked what_is) row_is is

  asked_of_answer : (t : Tables) (id serial : List ℕ) (ask : Ask) (row : Row) (found : Option Order) (order : Order) (form : Form) → order_of t id ≡ found → Kept t → AskIsInRange ask → row_of t serial ≡ Some row
      → (asked_of next t id serial ask row found).answer ≡ answer_is.Order order form → IsAnswer (asked_of next t id serial ask row found).tables id serial ask order form
  asked_of_answer t id serial ask row (Some kept) order form found_is in_order asked row_is is = kept_answer t id serial ask row kept order form in_order row_is found_is is
  asked_of_answer t id serial ask row None order form found_is in_order asked row_is is =
      issued_answer t id serial ask row (offered t row ask) order form refl in_order (row_kept t.rows serial row in_order.rows row_is) asked row_is is

  asked_answer : (t : Tables) (id serial : List ℕ) (ask : Ask) (found : Option Row) (order : Order) (form : Form) → row_of t serial ≡ found → Kept t → AskIsInRange ask
      → (asked next t id serial ask found).answer ≡ answer_is.Order order form → IsAnswer (asked next t id serial ask found).tables id serial ask order form
  asked_answer t id serial ask None order form found_is in_order asked is = cc
  asked_answer t id serial ask (Some row) order form found_is in_order asked is = asked_of_answer t id serial ask row (order_of t id) order form refl in_order asked found_is is

  -- what was asked is answered again
  asks_again : (t later : Tables) (id serial : List ℕ) (ask : Ask) (order : Order) (form : Form) → Kept t → AskIsInRange ask → (asked next t id serial ask (row_of t serial)).answer ≡ answer_is.Order order form
      → Later (asked next t id serial ask (row_of t serial)).tables later → asked next later id serial ask (row_of later serial) ≡ stays later (answer_is.Order order form)
  asks_again t later id serial ask order form in_order asked_ok is goes =
      asked_again later id serial ask order form (answer_later (asked next t id serial ask (row_of t serial)).tables later id serial ask order form goes (asked_answer t id serial ask (row_of t serial) order form refl in_order asked_ok is))

  -- a kept order is told again
  told_again : (t later : Tables) (id : List ℕ) (found : Option Order) (order : Order) (form : Form) → Kept t → order_of t id ≡ found → told_order t found ≡ answer_is.Order order form → Later t later
      → told_order later (order_of later id) ≡ answer_is.Order order form
  told_again t later id None order form in_order found_is is goes = cc
  told_again t later id (Some kept) order form in_order found_is is goes =
      let one : kept ≡ order = cc in
      let two : form_for t kept ≡ form = cc in
      let own = some_is (row_of t kept.serial) (order_kept t.rows t.orders id kept in_order.orders found_is).1 in
      let own_form : form_in t kept.serial ≡ Some own.0.form = ap (λ (o : Option Row). option_map (λ (r : Row). r.form) o) own.1 in
      let same : own.0.form ≡ form = sym (ap (λ (o : Option Form). unwrap_or o Nine) own_form) ∙ two in
      let after : form_in later kept.serial ≡ Some form = form_later t later kept.serial form goes (own_form ∙ ap (λ (f : Form). Some f) same) in
      ap (λ (o : Option Order). told_order later o) (goes.orders id kept found_is)
      ∙ ap (λ (o : Option Form). answer_is.Order kept (unwrap_or o Nine)) after
      ∙ ap (λ (o : Order). answer_is.Order o form) one

  row_no_order : (agreed : Bool) (row : Row) (order : Order) (form : Form) → cond agreed (answer_is.Row row) (answer_is.SerialUsed row) ≡ answer_is.Order order form → ⊥
  row_no_order true row order form is = cc
  row_no_order false row order form is = cc

  enrol_no_order : (t : Tables) (enrol : Enrol) (found : Option Row) (order : Order) (form : Form) → (enrolled t enrol found).answer ≡ answer_is.Order order form → ⊥
  enrol_no_order t enrol None order form is = cc
  enrol_no_order t enrol (Some row) order form is = row_no_order (agrees enrol row) row order form is

  show_no_order : (found : Option Row) (order : Order) (form : Form) → told_row found ≡ answer_is.Order order form → ⊥
  show_no_order None order form is = cc
  show_no_order (Some row) order form is = cc

  raised_no_order : (t : Tables) (row : Row) (low : Bool) (order : Order) (form : Form) → (raised_at t row low).answer ≡ answer_is.Order order form → ⊥
  raised_no_order t row true order form is = cc
  raised_no_order t row false order form is = cc

  raise_no_order : (t : Tables) (found : Option Row) (order : Order) (form : Form) → (raises t found).answer ≡ answer_is.Order order form → ⊥
  raise_no_order t None order form is = cc
  raise_no_order t (Some row) order form is = raised_no_order t row (row.limit == LAST) order form is

  price_no_order : (same : Bool) (kept : PriceChange) (order : Order) (form : Form) → cond same (answer_is.Price kept) (answer_is.PriceUsed kept.price) ≡ answer_is.Order order form → ⊥
  price_no_order true kept order form is = cc
  price_no_order false kept order form is = cc

  changed_no_order : (t : Tables) (change : PriceChange) (row : Row) (newest : Bool) (order : Order) (form : Form) → (changed_at t change row newest).answer ≡ answer_is.Order order form → ⊥
  changed_no_order t change row true order form is = cc
  changed_no_order t change row false order form is = cc

  kept_no_order : (t : Tables) (change : PriceChange) (row : Row) (found : Option PriceChange) (order : Order) (form : Form) → (changed_of t change row found).answer ≡ answer_is.Order order form → ⊥
  kept_no_order t change row (Some kept) order form is = price_no_order (kept.price == change.price) kept order form is
  kept_no_order t change row None order form is = changed_no_order t change row (change.from == row.last) order form is

  reprice_no_order : (t : Tables) (change : PriceChange) (found : Option Row) (order : Order) (form : Form) → (repriced t change found).answer ≡ answer_is.Order order form → ⊥
  reprice_no_order t change None order form is = cc
  reprice_no_order t change (Some row) order form is = kept_no_order t change row (change_of t change.serial change.from) order form is

  lifted_no_order : (t : Tables) (to : ℕ) (row : Row) (within : Bool) (order : Order) (form : Form) → (lifted_at t to row within).answer ≡ answer_is.Order order form → ⊥
  lifted_no_order t to row true order form is = cc
  lifted_no_order t to row false order form is = cc

  skip_no_order : (t : Tables) (to : ℕ) (row : Row) (above : Bool) (order : Order) (form : Form) → (skipped_at t to row above).answer ≡ answer_is.Order order form → ⊥
  skip_no_order t to row true order form is = lifted_no_order t to row (nat_le to row.limit) order form is
  skip_no_order t to row false order form is = cc

  skipped_no_order : (t : Tables) (to : ℕ) (found : Option Row) (order : Order) (form : Form) → (skipped t to found).answer ≡ answer_is.Order order form → ⊥
  skipped_no_order t to None order form is = cc
  skipped_no_order t to (Some row) order form is = skip_no_order t to row (nat_lt row.last to) order form is

  quoted_at_no_order : (row : Row) (issue : Issue) (found : Option ℕ) (order : Order) (form : Form) → quoted_at row issue found ≡ answer_is.Order order form → ⊥
  quoted_at_no_order row issue None order form is = cc
  quoted_at_no_order row issue (Some count) order form is = cc

  quoted_for_no_order : (price : ℕ) (row : Row) (ask : Ask) (what : Result Issue Answer) (order : Order) (form : Form) → issue_for price row ask ≡ what → quoted_for next row what ≡ answer_is.Order order form → ⊥
  quoted_for_no_order price row ask (Err refusal) order form what_is is = no_order price row ask order form (what_is ∙ ap (λ (a : Answer). refused a) is)
  quoted_for_no_order price row ask (Ok issue) order form what_is is = quoted_at_no_order row issue (pick (next issue.row.key) issue.row.start issue.row.limit issue.row.last issue.kind issue.value) order form is

  quote_no_order : (t : Tables) (amount : ℕ) (found : Option Row) (order : Order) (form : Form) → quoted next t amount found ≡ answer_is.Order order form → ⊥
  quote_no_order t amount None order form is = cc
  quote_no_order t amount (Some row) order form is = quoted_for_no_order (price_at t row (row.last + 1)) row (asks.Pay amount) (offered t row (asks.Pay amount)) order form refl is

  -- a command that was answered by an order is answered by it again, and changes nothing
  pub again : (t later : Tables) (command : Command) (order : Order) (form : Form) → Kept t → IsCommand command → (done next t command).answer ≡ answer_is.Order order form
      → Later (done next t command).tables later → done next later command ≡ stays later (answer_is.Order order form)
  again t later (command_is.Enroll enrol) order form in_order may is goes = absurd (enrol_no_order t enrol (row_of t enrol.serial) order form is)
  again t later (command_is.Pay id serial amount) order form in_order may is goes = asks_again t later id serial (asks.Pay amount) order form in_order may is goes
  again t later (command_is.Set id serial units) order form in_order may is goes = asks_again t later id serial (asks.Set units) order form in_order may is goes
  again t later (command_is.Disable id serial) order form in_order may is goes = asks_again t later id serial asks.Disable order form in_order tt is goes
  again t later (command_is.Sync id serial) order form in_order may is goes = asks_again t later id serial asks.Sync order form in_order tt is goes
  again t later (command_is.Order id) order form in_order may is goes = ap (λ (a : Answer). stays later a) (told_again t later id (order_of t id) order form in_order refl is goes)
  again t later (command_is.Show serial) order form in_order may is goes = absurd (show_no_order (row_of t serial) order form is)
  again t later (command_is.Raise serial) order form in_order may is goes = absurd (raise_no_order t (row_of t serial) order form is)
  again t later (command_is.Price serial from price) order form in_order may is goes = absurd (reprice_no_order t (change_to serial from price) (row_of t serial) order form is)
  again t later (command_is.Quote serial amount) order form in_order may is goes = absurd (quote_no_order t amount (row_of t serial) order form is)
  again t later (command_is.Skip serial to) order form in_order may is goes = absurd (skipped_no_order t to (row_of t serial) order form is)

  -- and so it is after any run of commands
  pub again_after : StaysBelow next → (t later : Tables) (command : Command) (order : Order) (form : Form) (commands : List Command) (answers : List (Option Answer)) → Kept t → IsCommand command
      → (done next t command).answer ≡ answer_is.Order order form → Runs next (done next t command).tables commands answers later → done next later command ≡ stays later (answer_is.Order order form)
  again_after below t later command order form commands answers in_order may is runs =
      again t later command order form in_order may is (run_well next below commands answers (done next t command).tables later (done_well next below t command in_order may).kept runs).later

  -- and so it is at once
  pub again_at_once : (t : Tables) (command : Command) (order : Order) (form : Form) → Kept t → IsCommand command → (done next t command).answer ≡ answer_is.Order order form
      → done next (done next t command).tables command ≡ stays (done next t command).tables (answer_is.Order order form)
  again_at_once t command order form in_order may is = again t (done next t command).tables command order form in_order may is (later_still (done next t command).tables)

  by_own_id : (t : Tables) (id : List ℕ) (order : Order) → order_of t id ≡ Some order → order_of t order.id ≡ Some order
  by_own_id t id order is = ap (λ i. order_of t i) (found_id t.orders id order is) ∙ is

  told_is_kept : (t : Tables) (id : List ℕ) (found : Option Order) (order : Order) (form : Form) → order_of t id ≡ found → told_order t found ≡ answer_is.Order order form → order_of t order.id ≡ Some order
  told_is_kept t id None order form found_is is = cc
  told_is_kept t id (Some kept) order form found_is is = let one : kept ≡ order = cc in by_own_id t id order (found_is ∙ ap (λ (o : Order). Some o) one)

  -- an order that is answered is kept
  pub answered_is_kept : (t : Tables) (command : Command) (order : Order) (form : Form) → Kept t → IsCommand command → (done next t command).answer ≡ answer_is.Order order form → order_of (done next t command).tables order.id ≡ Some order
  answered_is_kept t (command_is.Enroll enrol) order form in_order may is = absurd (enrol_no_order t enrol (row_of t enrol.serial) order form is)
  answered_is_kept t (command_is.Pay id serial amount) order form in_order may is = by_own_id (asked next t id serial (asks.Pay amount) (row_of t serial)).tables id order (asked_answer t id serial (asks.Pay amount) (row_of t serial) order form refl in_order may is).found
  answered_is_kept t (command_is.Set id serial units) order form in_order may is = by_own_id (asked next t id serial (asks.Set units) (row_of t serial)).tables id order (asked_answer t id serial (asks.Set units) (row_of t serial) order form refl in_order may is).found
  answered_is_kept t (command_is.Disable id serial) order form in_order may is = by_own_id (asked next t id serial asks.Disable (row_of t serial)).tables id order (asked_answer t id serial asks.Disable (row_of t serial) order form refl in_order tt is).found
  answered_is_kept t (command_is.Sync id serial) order form in_order may is = by_own_id (asked next t id serial asks.Sync (row_of t serial)).tables id order (asked_answer t id serial asks.Sync (row_of t serial) order form refl in_order tt is).found
  answered_is_kept t (command_is.Order id) order form in_order may is = told_is_kept t id (order_of t id) order form refl is
  answered_is_kept t (command_is.Show serial) order form in_order may is = absurd (show_no_order (row_of t serial) order form is)
  answered_is_kept t (command_is.Raise serial) order form in_order may is = absurd (raise_no_order t (row_of t serial) order form is)
  answered_is_kept t (command_is.Price serial from price) order form in_order may is = absurd (reprice_no_order t (change_to serial from price) (row_of t serial) order form is)
  answered_is_kept t (command_is.Quote serial amount) order form in_order may is = absurd (quote_no_order t amount (row_of t serial) order form is)
  answered_is_kept t (command_is.Skip serial to) order form in_order may is = absurd (skipped_no_order t to (row_of t serial) order form is)
