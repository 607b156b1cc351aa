-- What a line of sheets asks for. It is read as a line of the ledger is: it is one JSON value, whose member `do` says
-- what is asked for, which needs some members, and each member has a form, which is its rule. Other members are passed
-- over, and of members with one name the last counts. A line with a member that is missing or not of its form is refused
-- by the least rule that it breaks. The rules that the ledger has too have its numbers.
use Rattle.std.specs.Prelude.{ℕ, ◌≤◌, ◌^◌, List, length, codes, if◌then◌else◌}
use Rattle.std.specs.Prelude.{Option, Some, None, option_and_then, Result, Ok, Err}
use Rattle.std.specs.Str.{bytes_eq}
use Rattle.serde_json.specs.Data.{Data}
use Rattle.ledger_spec.specs.declared.TextFault.{TextFault}
use Rattle.ledger_spec.specs.declared.TextFault.TheVariants.{Json, Shape}
use Rattle.ledger_spec.specs.Names.{name_in}
use Rattle.ledger_spec.specs.Reading.{reading, text_at, number_at, is_within, serial_in, amount_in}
use Rattle.sheet_text.specs.declared.asks.Sheet.{Sheet}
use Rattle.sheet_text.specs.declared.asks.Sold.{Sold}
use Rattle.sheet_text.specs.declared.asks.Ask.{Ask}
use Rattle.sheet_text.specs.declared.asks.Ask.TheVariants as asks

-- Rule 13: `sheet` is a name of at most 30 bytes, so that an id can be made of it.
abbrev pub sheet_in : Data → Option (List ℕ)
sheet_in value = option_and_then (name_in 30) (text_at (codes "sheet") value)

-- Rule 14: `place` is a whole number from 1 to 8.
abbrev pub place_in : Data → Option ℕ
place_in value = number_at (is_within 1 8) (codes "place") value

-- Rule 15: `sale` is a name of at most 32 bytes.
abbrev pub sale_in : Data → Option (List ℕ)
sale_in value = option_and_then (name_in 32) (text_at (codes "sale") value)

-- Rule 16: `money` is a whole number from 1 to 10^12 smallest coins.
abbrev pub money_in : Data → Option ℕ
money_in value = number_at (is_within 1 (10 ^ 12)) (codes "money") value

-- Rule 17: `tokens` is a whole number from 1 to 8.
abbrev pub tokens_in : Data → Option ℕ
tokens_in value = number_at (is_within 1 8) (codes "tokens") value

-- What follows from a needed member that keeps its rule; a line that breaks the rule is refused by its number.
abbrev pub need : {A B : Type 0} → ℕ → Option A → (A → Result B TextFault) → Result B TextFault
need rule None next = Err (Shape rule)
need rule (Some member) next = next member

-- The sheet that is bought, of the members that it needs, which stand here by their rules in rising order.
abbrev pub sheet_of : Data → Result Ask TextFault
sheet_of value =
    need 2 (serial_in value) (λ serial. need 10 (amount_in value) (λ amount. need 13 (sheet_in value) (λ sheet.
    need 17 (tokens_in value) (λ tokens. Ok (asks.Sheet record {
      sheet = sheet;
      serial = serial;
      amount = amount;
      tokens = tokens;
    })))))

-- The sale that is reported, of the members that it needs, which stand here by their rules in rising order.
abbrev pub sold_of : Data → Result Ask TextFault
sold_of value =
    need 13 (sheet_in value) (λ sheet. need 14 (place_in value) (λ place. need 15 (sale_in value) (λ sale.
    need 16 (money_in value) (λ money. Ok (asks.Sold record {
      sheet = sheet;
      place = place;
      sale = sale;
      money = money;
    })))))

-- Rule 1: `do` is `sheet` or `sold`.
abbrev pub ask_of : Data → List ℕ → Result Ask TextFault
ask_of value word =
    if bytes_eq word (codes "sheet") then sheet_of value
    else if bytes_eq word (codes "sold") then sold_of value
    else Err (Shape 1)

-- What a JSON value asks for.
abbrev pub ask_at : Option Data → Result Ask TextFault
ask_at None = Err Json
ask_at (Some value) = need 1 (text_at (codes "do") value) (ask_of value)

-- What a line asks for, or why it asks for nothing: it has no JSON value, or it breaks a rule.
unfoldable pub ask_in : List ℕ → Result Ask TextFault
ask_in line = ask_at (reading line)

-- What is said of a sheet is in range.
pub record SheetIsInRange (bought : Sheet) : Type 0 where
  pub sheet : length bought.sheet ≤ 30
  pub serial : length bought.serial ≤ 16
  pub amount : (1 ≤ bought.amount) × (bought.amount ≤ 10 ^ 12)
  pub tokens : (1 ≤ bought.tokens) × (bought.tokens ≤ 8)

-- What is said of a sale is in range.
pub record SoldIsInRange (sold : Sold) : Type 0 where
  pub sheet : length sold.sheet ≤ 30
  pub place : (1 ≤ sold.place) × (sold.place ≤ 8)
  pub sale : length sold.sale ≤ 32
  pub money : (1 ≤ sold.money) × (sold.money ≤ 10 ^ 12)

-- What a line asks for is in range.
abbrev pub AskIsInRange : Ask → Type 0
AskIsInRange (asks.Sheet sheet) = SheetIsInRange sheet
AskIsInRange (asks.Sold sold) = SoldIsInRange sold
