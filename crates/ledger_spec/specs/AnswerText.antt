-- The texts of the ledger's answers: one line of JSON each, without spaces between members. Shops print and file these
-- lines, so each is exact. The key of a device is never written, so that who reads an answer isn't told it.
use Rattle.std.specs.Prelude.{ℕ, Bool, true, false, ◌==◌, List, [], ◌∷◌, ◌++◌, codes, if◌then◌else◌}
use Rattle.std.specs.Fmt.{decimal}
use Rattle.paygo_spec.specs.declared.Form.{Form}
use Rattle.paygo_spec.specs.declared.TheConstants.{GREAT}
use Rattle.paygo_spec.specs.Digits.{digits_of, digit_count}
use Rattle.ledger_spec.specs.declared.Kind.{Kind}
use Rattle.ledger_spec.specs.declared.Kind.TheVariants as kind_is
use Rattle.ledger_spec.specs.declared.Ask.{Ask}
use Rattle.ledger_spec.specs.declared.Ask.TheVariants as asks
use Rattle.ledger_spec.specs.declared.Row.{Row}
use Rattle.ledger_spec.specs.declared.Order.{Order}
use Rattle.ledger_spec.specs.declared.PriceChange.{PriceChange}
use Rattle.ledger_spec.specs.declared.Quote.{Quote}
use Rattle.ledger_spec.specs.declared.Answer.{Answer}
use Rattle.ledger_spec.specs.declared.Answer.TheVariants as answer_is
use Rattle.ledger_spec.specs.declared.TextFault.{TextFault}
use Rattle.ledger_spec.specs.declared.TextFault.TheVariants as fault_is

-- A member of an answer: its name, and its number in decimal digits, its text, or whether it is so.
pub data Member : Type 0 where
  number : List ℕ → ℕ → Member
  text : List ℕ → List ℕ → Member
  truth : List ℕ → Bool → Member

-- The word of a truth.
abbrev pub word_of : Bool → List ℕ
word_of true = codes "true"
word_of false = codes "false"

-- A comma, and a member's name in quotes, with a colon.
abbrev pub with_name : List ℕ → List ℕ → List ℕ
with_name front name = ((front ++ codes ",\"") ++ name) ++ codes "\":"

-- A member behind what stands before it.
abbrev pub with_member : List ℕ → Member → List ℕ
with_member front (number name n) = with_name front name ++ decimal n
with_member front (text name bytes) = ((with_name front name ++ codes "\"") ++ bytes) ++ codes "\""
with_member front (truth name so) = with_name front name ++ word_of so

-- Members in their order.
abbrev pub with_members : List ℕ → List Member → List ℕ
with_members front [] = front
with_members front (member ∷ members) = with_members (with_member front member) members

-- The answer to a command that was done.
abbrev pub done_text : List ℕ → List Member → List ℕ
done_text what members = with_members ((codes "{\"ok\":\"" ++ what) ++ codes "\"") members ++ codes "}"

-- The answer to a command that was refused: the number of the refusal, and why.
abbrev pub refused_text : ℕ → List ℕ → List Member → List ℕ
refused_text refusal why members =
    let reason = (((codes "{\"no\":" ++ decimal refusal) ++ codes ",\"why\":\"") ++ why) ++ codes "\"" in
    with_members reason members ++ codes "}"

-- The word of a kind.
abbrev pub kind_name : Kind → List ℕ
kind_name kind_is.Add = codes "add"
kind_name kind_is.Set = codes "set"
kind_name kind_is.Disable = codes "disable"
kind_name kind_is.Sync = codes "sync"

-- The number that was asked: the amount of a payment, the units of a `set`, and 0 else.
abbrev pub number_asked : Ask → ℕ
number_asked (asks.Pay amount) = amount
number_asked (asks.Set units) = units
number_asked asks.Disable = 0
number_asked asks.Sync = 0

-- What is told of an order. Its token stands in the digits that its customer types.
abbrev pub order_members : Order → Form → List Member
order_members order form =
    text (codes "id") order.id
    ∷ text (codes "serial") order.serial
    ∷ text (codes "kind") (kind_name order.kind)
    ∷ number (codes "asked") (number_asked order.ask)
    ∷ number (codes "count") order.count
    ∷ number (codes "value") order.value
    ∷ text (codes "token") (digits_of form order.token)
    ∷ []

-- The limit is told of a row whose limit was raised, and of no other.
abbrev pub limit_members : ℕ → List Member
limit_members limit = if limit == GREAT then number (codes "limit") GREAT ∷ [] else []

-- What is told of a row: all but its key.
abbrev pub row_members : Row → List Member
row_members row =
    text (codes "serial") row.serial
    ∷ number (codes "start") row.start
    ∷ number (codes "divider") row.divider
    ∷ number (codes "form") (digit_count row.form)
    ∷ number (codes "price") row.price
    ∷ number (codes "total") row.total
    ∷ number (codes "paid") row.paid
    ∷ number (codes "rest") row.rest
    ∷ number (codes "last") row.last
    ∷ truth (codes "closed") row.closed
    ∷ limit_members row.limit

-- What is told of a change of a price.
abbrev pub change_members : PriceChange → List Member
change_members change =
    text (codes "serial") change.serial
    ∷ number (codes "from") change.from
    ∷ number (codes "price") change.price
    ∷ []

-- What is told of a quote. A count that is in reach is near, else it is far.
abbrev pub quote_members : Quote → List Member
quote_members quote =
    text (codes "serial") quote.serial
    ∷ text (codes "kind") (kind_name quote.kind)
    ∷ number (codes "count") quote.count
    ∷ number (codes "value") quote.value
    ∷ number (codes "rest") quote.rest
    ∷ truth (codes "near") quote.near
    ∷ []

-- The text of an answer.
unfoldable pub text_of_answer : Answer → List ℕ
text_of_answer (answer_is.Order order form) = done_text (codes "order") (order_members order form)
text_of_answer (answer_is.Row row) = done_text (codes "row") (row_members row)
text_of_answer (answer_is.Price change) = done_text (codes "price") (change_members change)
text_of_answer answer_is.NoDevice = refused_text 1 (codes "no device") []
text_of_answer (answer_is.IdUsed order form) = refused_text 2 (codes "id used") (order_members order form)
text_of_answer (answer_is.SerialUsed row) = refused_text 3 (codes "serial used") (row_members row)
text_of_answer (answer_is.Closed paid) = refused_text 4 (codes "closed") (number (codes "paid") paid ∷ [])
text_of_answer (answer_is.Small have price) =
    refused_text 5 (codes "small") (number (codes "have") have ∷ number (codes "price") price ∷ [])
text_of_answer (answer_is.Large units) = refused_text 6 (codes "large") (number (codes "units") units ∷ [])
text_of_answer (answer_is.NoCount last) = refused_text 7 (codes "no count") (number (codes "last") last ∷ [])
text_of_answer answer_is.NoOrder = refused_text 8 (codes "no order") []
text_of_answer (answer_is.PriceUsed price) = refused_text 11 (codes "price used") (number (codes "price") price ∷ [])
text_of_answer (answer_is.Stale last) = refused_text 12 (codes "stale") (number (codes "last") last ∷ [])
text_of_answer (answer_is.Quote quote) = done_text (codes "quote") (quote_members quote)
text_of_answer (answer_is.Beyond limit) = refused_text 13 (codes "beyond") (number (codes "limit") limit ∷ [])

-- The text of the refusal of a line that has no command. Want of memory ends the run and is never written.
unfoldable pub text_of_fault : TextFault → List ℕ
text_of_fault fault_is.Json = refused_text 9 (codes "json") []
text_of_fault (fault_is.Shape rule) = refused_text 10 (codes "shape") (number (codes "rule") rule ∷ [])
text_of_fault fault_is.Memory = []
