-- What the columns of the shop's database say: a row, an order or a change of a price, in range or not.
use Rattle.std.specs.Prelude.{ℕ, ◌+◌, ◌^◌, ◌==◌, Bool, true, false, List, Option, Some, None, if◌then◌else◌}
use Rattle.std.specs.Option.{option_and_then, option_map}
use Rattle.sqlite_value.specs.declared.value.Value.{Value}
use Rattle.sqlite_value.specs.Order.{column}
use Rattle.paygo_spec.specs.declared.Form.{Form}
use Rattle.paygo_spec.specs.declared.TheConstants.{GREAT, LAST}
use Rattle.paygo_spec.specs.Digits.{form_of}
use Rattle.ledger_spec.specs.declared.Ask.{Ask}
use Rattle.ledger_spec.specs.declared.Ask.TheVariants as ask
use Rattle.ledger_spec.specs.declared.Kind.{Kind}
use Rattle.ledger_spec.specs.declared.Kind.TheVariants as kind
use Rattle.ledger_spec.specs.declared.Row.{Row}
use Rattle.ledger_spec.specs.declared.Order.{Order}
use Rattle.ledger_spec.specs.declared.PriceChange.{PriceChange}
use Rattle.table_columns.specs.Columns.{number_in, number_below, below, name_in_column, key_in}

-- What follows from a value, if there is one.
abbrev pub given : {A B : Type 0} → Option A → (A → Option B) → Option B
given value next = option_and_then next value

-- Yes is the number 1, and no is 0.
abbrev pub flag_of : ℕ → Option Bool
flag_of n = if n == 0 then Some false else if n == 1 then Some true else None

-- Yes or no in a column.
abbrev pub flag_in : Value → Option Bool
flag_in value = given (number_in value) flag_of

-- The form in a column: its number of digits.
abbrev pub form_in_column : Value → Option Form
form_in_column value = given (number_below (2 ^ 8) value) form_of

-- The limit in a column: whether it was raised.
abbrev pub limit_in : Value → Option ℕ
limit_in value = option_map (λ raised. if raised then GREAT else LAST) (flag_in value)

-- The number of what is asked: 0 to pay, 1 to set, 2 to disable, 3 to sync.
abbrev pub ask_code : Ask → ℕ
ask_code (ask.Pay amount) = 0
ask_code (ask.Set units) = 1
ask_code ask.Disable = 2
ask_code ask.Sync = 3

-- The number asked: the amount or the units, and 0 where neither is asked.
abbrev pub asked_code : Ask → ℕ
asked_code (ask.Pay amount) = amount
asked_code (ask.Set units) = units
asked_code ask.Disable = 0
asked_code ask.Sync = 0

-- What these two numbers ask.
abbrev pub ask_in : ℕ → ℕ → Option Ask
ask_in code asked =
    if code == 0 then Some (ask.Pay asked)
    else if code == 1 then option_map (λ units. ask.Set units) (below (2 ^ 16) asked)
    else if code == 2 then Some ask.Disable
    else if code == 3 then Some ask.Sync else None

-- The number of what a token does: 0 to add, 1 to set, 2 to disable, 3 to sync.
abbrev pub kind_code : Kind → ℕ
kind_code kind.Add = 0
kind_code kind.Set = 1
kind_code kind.Disable = 2
kind_code kind.Sync = 3

-- What a token does, by its number.
abbrev pub kind_in : ℕ → Option Kind
kind_in code =
    if code == 0 then Some kind.Add
    else if code == 1 then Some kind.Set
    else if code == 2 then Some kind.Disable
    else if code == 3 then Some kind.Sync else None

-- The row that twelve columns from this place on say: serial, secret, start, divider, form, price, total, paid, rest, last,
-- closed, and whether its limit was raised.
unfoldable pub row_said : ℕ → List Value → Option Row
row_said at columns =
    given (name_in_column 32 (column columns at)) (λ serial.
    given (key_in (column columns (at + 1))) (λ key.
    given (number_below (2 ^ 32) (column columns (at + 2))) (λ start.
    given (number_below (2 ^ 8) (column columns (at + 3))) (λ divider.
    given (form_in_column (column columns (at + 4))) (λ form.
    given (number_in (column columns (at + 5))) (λ price.
    given (number_in (column columns (at + 6))) (λ total.
    given (number_in (column columns (at + 7))) (λ paid.
    given (number_in (column columns (at + 8))) (λ rest.
    given (number_below (2 ^ 16) (column columns (at + 9))) (λ last.
    given (flag_in (column columns (at + 10))) (λ closed.
    given (limit_in (column columns (at + 11))) (λ limit.
    Some (record {
      serial = serial;
      key = key;
      start = start;
      divider = divider;
      form = form;
      price = price;
      total = total;
      paid = paid;
      rest = rest;
      last = last;
      limit = limit;
      closed = closed;
    })))))))))))))

-- The order that eight columns say: id, serial, ask, asked, kind, count, value and token.
unfoldable pub order_said : List Value → Option Order
order_said columns =
    given (name_in_column 32 (column columns 0)) (λ id.
    given (name_in_column 32 (column columns 1)) (λ serial.
    given (number_in (column columns 2)) (λ code.
    given (number_in (column columns 3)) (λ asked.
    given (ask_in code asked) (λ ask.
    given (number_in (column columns 4)) (λ number.
    given (kind_in number) (λ kind.
    given (number_below (2 ^ 16) (column columns 5)) (λ count.
    given (number_below (2 ^ 16) (column columns 6)) (λ value.
    given (number_below (2 ^ 32) (column columns 7)) (λ token.
    Some (record {
      id = id;
      serial = serial;
      ask = ask;
      kind = kind;
      count = count;
      value = value;
      token = token;
    })))))))))))

-- The change of a price that three columns say: serial, the count from which it holds, and price.
unfoldable pub change_said : List Value → Option PriceChange
change_said columns =
    given (name_in_column 32 (column columns 0)) (λ serial.
    given (number_below (2 ^ 16) (column columns 1)) (λ from.
    given (number_in (column columns 2)) (λ price.
    Some (record { serial = serial; from = from; price = price }))))
