-- What the shop's ledger answers to a command, and its tables then. Each command is refused by the first reason that
-- there is, and a refused command changes nothing.
use Rattle.std.specs.Prelude.{◌≡◌, ℕ, ◌+◌, ◌/◌, ◌%◌, ◌^◌, ◌<◌, ◌≤◌, Bool, true, false, ◌&&◌, ◌==◌, nat_lt, nat_le, List, length, Option, None, Some, Result, Ok, Err, unwrap_or, if◌then◌else◌}
use Rattle.paygo_spec.specs.declared.Form.{Form}
use Rattle.paygo_spec.specs.declared.Form.TheVariants.{Nine, Fifteen}
use Rattle.paygo_spec.specs.declared.TheConstants.{LAST, GREAT}
use Rattle.paygo_spec.specs.Chain.{token_at}
use Rattle.paygo_spec.specs.Clock.{divides_day}
use Rattle.std.specs.Str.{bytes_eq}
use Rattle.ledger_spec.specs.declared.Row.{Row}
use Rattle.ledger_spec.specs.declared.Order.{Order}
use Rattle.ledger_spec.specs.declared.Ask.{Ask}
use Rattle.ledger_spec.specs.declared.Ask.TheVariants as asks
use Rattle.ledger_spec.specs.declared.Kind.TheVariants as kind_is
use Rattle.ledger_spec.specs.declared.Enrol.{Enrol}
use Rattle.ledger_spec.specs.declared.PriceChange.{PriceChange}
use Rattle.ledger_spec.specs.declared.Issue.{Issue}
use Rattle.ledger_spec.specs.declared.Command.{Command}
use Rattle.ledger_spec.specs.declared.Command.TheVariants as command_is
use Rattle.ledger_spec.specs.declared.Answer.{Answer}
use Rattle.ledger_spec.specs.declared.Answer.TheVariants as answer_is
use Rattle.ledger_spec.specs.Names.{same_name}
use Rattle.ledger_spec.specs.Tables.{Tables, row_of, order_of, form_in, with_row, with_order, change_of, price_at, with_change, raised_row, with_raised, lifted_row, with_lifted, OrderIsInRange, RowIsInRange, ChangeIsInRange, AskIsInRange}
use Rattle.ledger_spec.specs.Issuing.{pick, is_near}

-- What was done with a command: the answer, and the tables then.
pub record Done : Type 0 where
  pub answer : Answer
  pub tables : Tables

-- This is answered, and the tables stay as they were.
abbrev pub stays : Tables → Answer → Done
stays tables answer = record { answer = answer; tables = tables }

-- Whether two forms are one.
abbrev pub same_form : Form → Form → Bool
same_form Nine Nine = true
same_form Fifteen Fifteen = true
same_form _ _ = false

-- Whether the same is asked.
abbrev pub same_ask : Ask → Ask → Bool
same_ask (asks.Pay a) (asks.Pay b) = a == b
same_ask (asks.Set a) (asks.Set b) = a == b
same_ask asks.Disable asks.Disable = true
same_ask asks.Sync asks.Sync = true
same_ask _ _ = false

-- Whether a row agrees with what a device is enrolled with.
abbrev pub agrees : Enrol → Row → Bool
agrees enrol row =
    bytes_eq row.key enrol.key
    && ((row.start == enrol.start)
    && ((row.divider == enrol.divider)
    && (same_form row.form enrol.form && ((row.price == enrol.price) && (row.total == enrol.total)))))

-- The row of a device that is enrolled.
abbrev pub new_row : Enrol → Row
new_row enrol = record {
  serial = enrol.serial;
  key = enrol.key;
  start = enrol.start;
  divider = enrol.divider;
  form = enrol.form;
  price = enrol.price;
  total = enrol.total;
  paid = 0;
  rest = 0;
  last = 0;
  limit = LAST;
  closed = false;
}

-- A device is enrolled. A serial that is kept is answered by its row where that agrees.
abbrev pub enrolled : Tables → Enrol → Option Row → Done
enrolled tables enrol None = record { answer = answer_is.Row (new_row enrol); tables = with_row (new_row enrol) tables }
enrolled tables enrol (Some row) =
    stays tables (if agrees enrol row then answer_is.Row row else answer_is.SerialUsed row)

-- A payment below the total buys, at this price, as many units as the money at hand pays for; the remainder is kept.
abbrev pub buys : ℕ → Row → ℕ → ℕ → Result Issue Answer
buys price row amount have =
    if nat_lt have price then Err (answer_is.Small have price)
    else if nat_lt 995 (have / price) then Err (answer_is.Large (have / price))
    else Ok record {
      kind = kind_is.Add;
      value = have / price;
      row = record row { paid = row.paid + amount; rest = have % price };
    }

-- A payment that reaches the total frees the device, and closes its row.
abbrev pub pays : ℕ → Row → ℕ → Result Issue Answer
pays price row amount =
    if row.closed then Err (answer_is.Closed row.paid)
    else if nat_lt (row.paid + amount) row.total then buys price row amount (row.rest + amount)
    else Ok record {
      kind = kind_is.Disable;
      value = 998;
      row = record row { paid = row.paid + amount; rest = 0; closed = true };
    }

-- What is issued at this price for what is asked of a device, or why nothing is.
abbrev pub issue_for : ℕ → Row → Ask → Result Issue Answer
issue_for price row (asks.Pay amount) = pays price row amount
issue_for price row (asks.Set units) =
    Ok record { kind = kind_is.Set; value = units; row = record row { closed = false } }
issue_for price row asks.Disable = Ok record { kind = kind_is.Disable; value = 998; row = record row { closed = true } }
issue_for price row asks.Sync = Ok record { kind = kind_is.Sync; value = 999; row = row }

-- The order of an issue at a count.
abbrev pub order_at : (List ℕ → ℕ → ℕ) → List ℕ → Ask → Issue → ℕ → Order
order_at next id ask issue count = record {
  id = id;
  serial = issue.row.serial;
  ask = ask;
  kind = issue.kind;
  count = count;
  value = issue.value;
  token = token_at (next issue.row.key) issue.row.start issue.value count;
}

-- The row that is kept with an issue at a count.
abbrev pub row_at : Issue → ℕ → Row
row_at issue count = record issue.row { last = count }

-- A token is issued at this count, or there is none.
abbrev pub issued_at : (List ℕ → ℕ → ℕ) → Tables → List ℕ → Ask → Issue → Option ℕ → Done
issued_at next tables id ask issue None = stays tables (answer_is.NoCount issue.row.last)
issued_at next tables id ask issue (Some count) = record {
  answer = answer_is.Order (order_at next id ask issue count) issue.row.form;
  tables = with_order (order_at next id ask issue count) (row_at issue count) tables;
}

-- What is issued for what is asked, at the price of the row's next count.
abbrev pub offered : Tables → Row → Ask → Result Issue Answer
offered tables row ask = issue_for (price_at tables row (row.last + 1)) row ask

-- What is issued, is issued at the least count that there is for it.
abbrev pub issued : (List ℕ → ℕ → ℕ) → Tables → List ℕ → Ask → Result Issue Answer → Done
issued next tables id ask (Err refusal) = stays tables refusal
issued next tables id ask (Ok issue) =
    let row = issue.row in
    issued_at next tables id ask issue (pick (next row.key) row.start row.limit row.last issue.kind issue.value)

-- Whether a kept order is that of the same serial and of the same ask, so that the command is a retry.
abbrev pub is_retry : List ℕ → Ask → Order → Bool
is_retry serial ask order = same_name order.serial serial && same_ask order.ask ask

-- The form in which an order's customer types tokens. Each kept order has a row.
abbrev pub form_for : Tables → Order → Form
form_for tables order = unwrap_or (form_in tables order.serial) Nine

-- A token is asked for a device that has a row. An id that is kept is answered by its order, or refused by it.
abbrev pub asked_of : (List ℕ → ℕ → ℕ) → Tables → List ℕ → List ℕ → Ask → Row → Option Order → Done
asked_of next tables id serial ask row (Some order) =
    let form = form_for tables order in
    stays tables (if is_retry serial ask order then answer_is.Order order form else answer_is.IdUsed order form)
asked_of next tables id serial ask row None = issued next tables id ask (offered tables row ask)

-- A token is asked for a device.
abbrev pub asked : (List ℕ → ℕ → ℕ) → Tables → List ℕ → List ℕ → Ask → Option Row → Done
asked next tables id serial ask None = stays tables answer_is.NoDevice
asked next tables id serial ask (Some row) = asked_of next tables id serial ask row (order_of tables id)

-- A kept order is asked for.
abbrev pub told_order : Tables → Option Order → Answer
told_order tables None = answer_is.NoOrder
told_order tables (Some order) = answer_is.Order order (form_for tables order)

-- A row is asked for.
abbrev pub told_row : Option Row → Answer
told_row None = answer_is.NoDevice
told_row (Some row) = answer_is.Row row

-- The same for a device that has a row, which is raised where its limit is the lower one. A raised row is answered as it
-- is.
abbrev pub raised_at : Tables → Row → Bool → Done
raised_at tables row true = record { answer = answer_is.Row (raised_row row); tables = with_raised row.serial tables }
raised_at tables row false = stays tables (answer_is.Row row)

-- The limit of a device's counts is to be raised.
abbrev pub raises : Tables → Option Row → Done
raises tables None = stays tables answer_is.NoDevice
raises tables (Some row) = raised_at tables row (row.limit == LAST)

-- A change of a price that isn't kept is added where it holds from the row's last count on.
abbrev pub changed_at : Tables → PriceChange → Row → Bool → Done
changed_at tables change row true = record { answer = answer_is.Price change; tables = with_change change tables }
changed_at tables change row false = stays tables (answer_is.Stale row.last)

-- A change of the price of a device that has a row. One that is kept is answered, or refuses another price.
abbrev pub changed_of : Tables → PriceChange → Row → Option PriceChange → Done
changed_of tables change row (Some kept) =
    stays tables (if kept.price == change.price then answer_is.Price kept else answer_is.PriceUsed kept.price)
changed_of tables change row None = changed_at tables change row (change.from == row.last)

-- A change of the price of a device.
abbrev pub repriced : Tables → PriceChange → Option Row → Done
repriced tables change None = stays tables answer_is.NoDevice
repriced tables change (Some row) = changed_of tables change row (change_of tables change.serial change.from)

-- The change that is asked for.
abbrev pub change_to : List ℕ → ℕ → ℕ → PriceChange
change_to serial from price = record { serial = serial; from = from; price = price }

-- What would be sold at a count, or there is none.
abbrev pub quoted_at : Row → Issue → Option ℕ → Answer
quoted_at row issue None = answer_is.NoCount issue.row.last
quoted_at row issue (Some count) = answer_is.Quote record {
  serial = row.serial;
  kind = issue.kind;
  count = count;
  value = issue.value;
  rest = issue.row.rest;
  near = is_near row.limit row.last issue.value count;
}

-- What would be issued, would be at the least count that there is for it.
abbrev pub quoted_for : (List ℕ → ℕ → ℕ) → Row → Result Issue Answer → Answer
quoted_for next row (Err refusal) = refusal
quoted_for next row (Ok issue) =
    quoted_at row issue
    (pick (next issue.row.key) issue.row.start issue.row.limit issue.row.last issue.kind issue.value)

-- A payment for a device is to be quoted.
abbrev pub quoted : (List ℕ → ℕ → ℕ) → Tables → ℕ → Option Row → Answer
quoted next tables amount None = answer_is.NoDevice
quoted next tables amount (Some row) = quoted_for next row (offered tables row (asks.Pay amount))

-- The last count of a device that has a row is lifted, where its limit allows the count.
abbrev pub lifted_at : Tables → ℕ → Row → Bool → Done
lifted_at tables to row true =
    record { answer = answer_is.Row (lifted_row to row); tables = with_lifted to row.serial tables }
lifted_at tables to row false = stays tables (answer_is.Beyond row.limit)

-- It is lifted where it is lower, and never lowered: a row whose last count is that or a greater one is answered as it is.
abbrev pub skipped_at : Tables → ℕ → Row → Bool → Done
skipped_at tables to row true = lifted_at tables to row (nat_le to row.limit)
skipped_at tables to row false = stays tables (answer_is.Row row)

-- The last count of a device is to be lifted.
abbrev pub skipped : Tables → ℕ → Option Row → Done
skipped tables to None = stays tables answer_is.NoDevice
skipped tables to (Some row) = skipped_at tables to row (nat_lt row.last to)

-- What the ledger does with a command.
abbrev pub done : (List ℕ → ℕ → ℕ) → Tables → Command → Done
done next tables (command_is.Enroll enrol) = enrolled tables enrol (row_of tables enrol.serial)
done next tables (command_is.Pay id serial amount) =
    asked next tables id serial (asks.Pay amount) (row_of tables serial)
done next tables (command_is.Set id serial units) = asked next tables id serial (asks.Set units) (row_of tables serial)
done next tables (command_is.Disable id serial) = asked next tables id serial asks.Disable (row_of tables serial)
done next tables (command_is.Sync id serial) = asked next tables id serial asks.Sync (row_of tables serial)
done next tables (command_is.Order id) = stays tables (told_order tables (order_of tables id))
done next tables (command_is.Show serial) = stays tables (told_row (row_of tables serial))
done next tables (command_is.Raise serial) = raises tables (row_of tables serial)
done next tables (command_is.Price serial from price) =
    repriced tables (change_to serial from price) (row_of tables serial)
done next tables (command_is.Quote serial amount) = stays tables (quoted next tables amount (row_of tables serial))
done next tables (command_is.Skip serial to) = skipped tables to (row_of tables serial)

-- What a device is enrolled with is in range.
pub record EnrolIsInRange (enrol : Enrol) : Type 0 where
  pub serial : length enrol.serial ≤ 16
  pub start : enrol.start < 10 ^ 9
  pub divider : divides_day enrol.divider ≡ true
  pub price : (1 ≤ enrol.price) × (enrol.price ≤ 10 ^ 9)
  pub total : (1 ≤ enrol.total) × (enrol.total ≤ 10 ^ 12)

-- A command is one that may be asked.
abbrev pub IsCommand : Command → Type 0
IsCommand (command_is.Enroll enrol) = EnrolIsInRange enrol
IsCommand (command_is.Pay id serial amount) = AskIsInRange (asks.Pay amount)
IsCommand (command_is.Set id serial units) = AskIsInRange (asks.Set units)
IsCommand (command_is.Price serial from price) = ChangeIsInRange (change_to serial from price)
IsCommand (command_is.Quote serial amount) = AskIsInRange (asks.Pay amount)
IsCommand (command_is.Skip serial to) = to ≤ GREAT
IsCommand _ = Unit {0}

-- What an answer holds is in range.
abbrev pub AnswerIsInRange : Answer → Type 0
AnswerIsInRange (answer_is.Order order form) = OrderIsInRange order
AnswerIsInRange (answer_is.IdUsed order form) = OrderIsInRange order
AnswerIsInRange (answer_is.Row row) = RowIsInRange row
AnswerIsInRange (answer_is.SerialUsed row) = RowIsInRange row
AnswerIsInRange (answer_is.Price change) = ChangeIsInRange change
AnswerIsInRange _ = Unit {0}
