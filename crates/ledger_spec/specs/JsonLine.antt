-- One line of JSON: an object whose members follow one another without spaces, and in which nothing needs an escape.
use Rattle.std.specs.Prelude.{◌≡◌, ℕ, Bool, true, ◌&&◌, ◌==◌, not, nat_le, List, [], ◌∷◌, ◌++◌, codes}
use Rattle.std.specs.List.{list_all}
use Rattle.std.specs.Fmt.{decimal}
use Rattle.ledger_spec.specs.declared.Order.{Order}
use Rattle.ledger_spec.specs.declared.Answer.{Answer}
use Rattle.ledger_spec.specs.declared.Answer.TheVariants as answer_is
use Rattle.ledger_spec.specs.Names.{is_name_byte}
use Rattle.ledger_spec.specs.AnswerText.{Member, number, text, truth, word_of}

-- Whether a byte can be printed: no such byte ends a line, and none is above 126.
abbrev pub is_printed : ℕ → Bool
is_printed b = nat_le 32 b && nat_le b 126

-- Whether a byte stands between quotes as it is: it can be printed, and is no quote (34) and no backslash (92).
abbrev pub is_plain_byte : ℕ → Bool
is_plain_byte b = is_printed b && (not (b == 34) && not (b == 92))

-- Whether a text stands between quotes as it is, so that it ends at the quote behind it and nowhere before.
abbrev pub is_plain : List ℕ → Bool
is_plain bytes = list_all is_plain_byte bytes

-- Whether a member's name is plain, and its text, where it has one.
abbrev pub is_plain_member : Member → Bool
is_plain_member (number name n) = is_plain name
is_plain_member (text name bytes) = is_plain name && is_plain bytes
is_plain_member (truth name so) = is_plain name

-- A text in quotes.
abbrev pub quoted : List ℕ → List ℕ
quoted bytes = codes "\"" ++ bytes ++ codes "\""

-- A member in JSON: its name in quotes, a colon, and its number in decimal digits, its text in quotes, `true` or `false`.
abbrev pub json_member : Member → List ℕ
json_member (number name n) = quoted name ++ codes ":" ++ decimal n
json_member (text name bytes) = quoted name ++ codes ":" ++ quoted bytes
json_member (truth name so) = quoted name ++ codes ":" ++ word_of so

-- Further members in JSON, each behind a comma.
abbrev pub json_more : List Member → List ℕ
json_more [] = []
json_more (member ∷ members) = codes "," ++ json_member member ++ json_more members

-- An object in JSON: its members in braces.
abbrev pub json_object : List Member → List ℕ
json_object [] = codes "{}"
json_object (member ∷ members) = codes "{" ++ json_member member ++ json_more members ++ codes "}"

-- A text is one line of JSON: one object whose names and texts are plain, and bytes that all can be printed.
pub record IsJsonLine (line : List ℕ) : Type 0 where
  pub members : List Member
  pub object : line ≡ json_object members
  pub plain : list_all is_plain_member members ≡ true
  pub printed : list_all is_printed line ≡ true

-- Each byte of an order's id and of its serial is one that a name may have.
pub record IsNamedOrder (order : Order) : Type 0 where
  pub id : list_all is_name_byte order.id ≡ true
  pub serial : list_all is_name_byte order.serial ≡ true

-- Each byte of an answer's names is one that a name may have.
abbrev pub IsNamed : Answer → Type 0
IsNamed (answer_is.Order order form) = IsNamedOrder order
IsNamed (answer_is.IdUsed order form) = IsNamedOrder order
IsNamed (answer_is.Row row) = list_all is_name_byte row.serial ≡ true
IsNamed (answer_is.SerialUsed row) = list_all is_name_byte row.serial ≡ true
IsNamed (answer_is.Price change) = list_all is_name_byte change.serial ≡ true
IsNamed (answer_is.Quote quote) = list_all is_name_byte quote.serial ≡ true
IsNamed _ = Unit {0}
