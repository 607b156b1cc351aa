-- What a line of the ledger asks for. A line is one JSON value, and its member `do` names the command. Each command needs
-- some members, and each member has a form, which is its rule. Other members are passed over, and of members with one
-- name the last counts. A line with a member that is missing or not of its form is refused by the least rule that it breaks.
use Rattle.std.specs.Prelude.{ℕ, ◌^◌, Bool, ◌&&◌, nat_le, List, codes, Option, Some, None, option_and_then, Result, Ok, Err, if◌then◌else◌}
use Rattle.std.specs.Str.{is_utf8, bytes_eq}
use Rattle.serde_json.specs.Data.{Data}
use Rattle.serde_json.specs.Read.{read}
use Rattle.serde_json.specs.Find.{get, as_str, as_number, as_u64}
use Rattle.paygo_spec.specs.declared.Form.{Form}
use Rattle.paygo_spec.specs.declared.TheConstants.{GREAT}
use Rattle.paygo_spec.specs.Clock.{divides_day}
use Rattle.paygo_spec.specs.Digits.{form_of}
use Rattle.paygo_spec.specs.Words.{key_in}
use Rattle.ledger_spec.specs.declared.Verb.{Verb}
use Rattle.ledger_spec.specs.declared.Verb.TheVariants as verb_is
use Rattle.ledger_spec.specs.declared.Command.{Command}
use Rattle.ledger_spec.specs.declared.Command.TheVariants as command_is
use Rattle.ledger_spec.specs.declared.TextFault.{TextFault}
use Rattle.ledger_spec.specs.declared.TextFault.TheVariants.{Json, Shape}
use Rattle.ledger_spec.specs.Names.{name_in}

-- The JSON value of a line, where serde_json has a reading of it: the line is UTF-8, and its text is JSON that nests at most
-- 127 deep, in which no number is too great for a float and no text has half of a surrogate pair.
abbrev pub reading : List ℕ → Option Data
reading line = if is_utf8 line then read line else None

-- A member's text, where it is a text.
abbrev pub text_at : List ℕ → Data → Option (List ℕ)
text_at member value = option_and_then as_str (get member value)

-- A member's number, where it is a whole one: digits without sign, point or exponent, and below 2^64.
abbrev pub whole_at : List ℕ → Data → Option ℕ
whole_at member value = option_and_then as_u64 (option_and_then as_number (get member value))

-- The number itself, where it passes the test.
abbrev pub passed : (ℕ → Bool) → ℕ → Option ℕ
passed test n = if test n then Some n else None

-- A member that is a whole number which passes the test.
abbrev pub number_at : (ℕ → Bool) → List ℕ → Data → Option ℕ
number_at test member value = option_and_then (passed test) (whole_at member value)

-- Whether a number is from the least to the most one.
abbrev pub is_within : ℕ → ℕ → ℕ → Bool
is_within least most n = nat_le least n && nat_le n most

-- The command that a word names.
abbrev pub verb_of : List ℕ → Option Verb
verb_of word =
    if bytes_eq word (codes "enroll") then Some verb_is.Enroll
    else if bytes_eq word (codes "pay") then Some verb_is.Pay
    else if bytes_eq word (codes "set") then Some verb_is.Set
    else if bytes_eq word (codes "disable") then Some verb_is.Disable
    else if bytes_eq word (codes "sync") then Some verb_is.Sync
    else if bytes_eq word (codes "order") then Some verb_is.Order
    else if bytes_eq word (codes "show") then Some verb_is.Show
    else if bytes_eq word (codes "raise") then Some verb_is.Raise
    else if bytes_eq word (codes "price") then Some verb_is.Price
    else if bytes_eq word (codes "quote") then Some verb_is.Quote
    else if bytes_eq word (codes "skip") then Some verb_is.Skip
    else None

-- Rule 1: `do` names a command.
abbrev pub verb_in : Data → Option Verb
verb_in value = option_and_then verb_of (text_at (codes "do") value)

-- Rule 2: `serial` is a name of at most 16 bytes.
abbrev pub serial_in : Data → Option (List ℕ)
serial_in value = option_and_then (name_in 16) (text_at (codes "serial") value)

-- Rule 3: `id` is a name of at most 32 bytes.
abbrev pub id_in : Data → Option (List ℕ)
id_in value = option_and_then (name_in 32) (text_at (codes "id") value)

-- Rule 4: `key` is a text of 32 hexadecimal digits of either case.
abbrev pub secret_in : Data → Option (List ℕ)
secret_in value = option_and_then key_in (text_at (codes "key") value)

-- Rule 5: `start` is a whole number below 10^9.
abbrev pub start_in : Data → Option ℕ
start_in value = number_at (is_within 0 999999999) (codes "start") value

-- Rule 6: `divider` is a whole number from 1 to 255 that divides the seconds of a day.
abbrev pub divider_in : Data → Option ℕ
divider_in value = number_at divides_day (codes "divider") value

-- Rule 7: `form` is 9 or 15.
abbrev pub form_in : Data → Option Form
form_in value = option_and_then form_of (whole_at (codes "form") value)

-- Rule 8: `price` is a whole number from 1 to 10^9 smallest coins.
abbrev pub price_in : Data → Option ℕ
price_in value = number_at (is_within 1 (10 ^ 9)) (codes "price") value

-- Rule 9: `total` is a whole number from 1 to 10^12 smallest coins.
abbrev pub total_in : Data → Option ℕ
total_in value = number_at (is_within 1 (10 ^ 12)) (codes "total") value

-- Rule 10: `amount` is a whole number from 1 to 10^12 smallest coins.
abbrev pub amount_in : Data → Option ℕ
amount_in value = number_at (is_within 1 (10 ^ 12)) (codes "amount") value

-- Rule 11: `units` is a whole number of units of time, at most 995.
abbrev pub units_in : Data → Option ℕ
units_in value = number_at (is_within 0 995) (codes "units") value

-- Rule 12: `from` is a count that a device may have at all: a whole number up to 16,383.
abbrev pub from_in : Data → Option ℕ
from_in value = number_at (is_within 0 GREAT) (codes "from") value

-- Rule 13: `to` is a count that a device may have at all: a whole number up to 16,383.
abbrev pub to_in : Data → Option ℕ
to_in value = number_at (is_within 0 GREAT) (codes "to") value

-- What follows from a needed member that keeps its rule; a line that breaks the rule is refused by its number.
abbrev pub need : {A : Type 0} → ℕ → Option A → (A → Result Command TextFault) → Result Command TextFault
need rule None next = Err (Shape rule)
need rule (Some member) next = next member

-- The command of a word, of the members that it needs, which stand here by their rules in rising order.
abbrev pub command_of : Data → Verb → Result Command TextFault
command_of value verb_is.Enroll =
    need 2 (serial_in value) (λ serial. need 4 (secret_in value) (λ key. need 5 (start_in value) (λ start.
    need 6 (divider_in value) (λ divider. need 7 (form_in value) (λ form. need 8 (price_in value) (λ price.
    need 9 (total_in value) (λ total. Ok (command_is.Enroll record {
      serial = serial;
      key = key;
      start = start;
      divider = divider;
      form = form;
      price = price;
      total = total;
    }))))))))
command_of value verb_is.Pay =
    need 2 (serial_in value) (λ serial. need 3 (id_in value) (λ id. need 10 (amount_in value) (λ amount.
    Ok (command_is.Pay id serial amount))))
command_of value verb_is.Set =
    need 2 (serial_in value) (λ serial. need 3 (id_in value) (λ id. need 11 (units_in value) (λ units.
    Ok (command_is.Set id serial units))))
command_of value verb_is.Disable =
    need 2 (serial_in value) (λ serial. need 3 (id_in value) (λ id. Ok (command_is.Disable id serial)))
command_of value verb_is.Sync =
    need 2 (serial_in value) (λ serial. need 3 (id_in value) (λ id. Ok (command_is.Sync id serial)))
command_of value verb_is.Order = need 3 (id_in value) (λ id. Ok (command_is.Order id))
command_of value verb_is.Show = need 2 (serial_in value) (λ serial. Ok (command_is.Show serial))
command_of value verb_is.Raise = need 2 (serial_in value) (λ serial. Ok (command_is.Raise serial))
command_of value verb_is.Price =
    need 2 (serial_in value) (λ serial. need 8 (price_in value) (λ price. need 12 (from_in value) (λ from.
    Ok (command_is.Price serial from price))))
command_of value verb_is.Quote =
    need 2 (serial_in value) (λ serial. need 10 (amount_in value) (λ amount. Ok (command_is.Quote serial amount)))
command_of value verb_is.Skip =
    need 2 (serial_in value) (λ serial. need 13 (to_in value) (λ to. Ok (command_is.Skip serial to)))

-- The command of a JSON value.
abbrev pub command_at : Option Data → Result Command TextFault
command_at None = Err Json
command_at (Some value) = need 1 (verb_in value) (command_of value)

-- The command of a line, or why it has none: it has no JSON value, or it breaks a rule.
unfoldable pub command_in : List ℕ → Result Command TextFault
command_in line = command_at (reading line)
