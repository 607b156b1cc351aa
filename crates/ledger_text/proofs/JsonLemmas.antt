-- The texts of answers are lines of JSON.
use Rattle.std.proofs.Common.{◌≡◌, ◌≢◌, ℕ, zero, suc, ◌+◌, ◌%◌, ◌/◌, ◌<◌, Bool, true, false, List, [], ◌∷◌, ◌++◌, refl, ap, sym, ◌∙◌, arith, append_assoc, append-nil}
use Rattle.std.specs.Prelude.{◌==◌, ◌&&◌, not, nat_le, nat_lt, codes, if◌then◌else◌}
use Rattle.std.specs.List.{list_all}
use Rattle.std.specs.Fmt.{decimal, digits, digits_onto, digit_glyph}
use Rattle.std.proofs.lemmas.Bool.Decides.{nat_tests}
use Rattle.std.proofs.lemmas.Nat.{mod_below}
use Rattle.std.proofs.lemmas.List.Folds.{list_all-append}
use Rattle.paygo_spec.specs.declared.Form.{Form}
use Rattle.paygo_spec.specs.declared.Form.TheVariants.{Nine, Fifteen}
use Rattle.paygo_spec.specs.declared.TheConstants.{GREAT}
use Rattle.paygo_spec.specs.Digits.{numeral, digits_of, is_digit}
use Rattle.ledger_spec.specs.declared.Kind.{Kind}
use Rattle.ledger_spec.specs.declared.Kind.TheVariants as kind_is
use Rattle.ledger_spec.specs.declared.Row.{Row}
use Rattle.ledger_spec.specs.declared.Order.{Order}
use Rattle.ledger_spec.specs.declared.PriceChange.{PriceChange}
use Rattle.ledger_spec.specs.declared.Quote.{Quote}
use Rattle.ledger_spec.specs.declared.Answer.{Answer}
use Rattle.ledger_spec.specs.declared.Answer.TheVariants as answer_is
use Rattle.ledger_spec.specs.declared.TextFault.{TextFault}
use Rattle.ledger_spec.specs.declared.TextFault.TheVariants as fault_is
use Rattle.ledger_spec.specs.Names.{is_name_byte}
use Rattle.ledger_spec.specs.AnswerText.{Member, number, text, truth, word_of, with_name, with_member, with_members, done_text, refused_text, kind_name, order_members, limit_members, row_members, change_members, quote_members, text_of_answer, text_of_fault}
use Rattle.ledger_spec.specs.JsonLine.{is_printed, is_plain_byte, is_plain, is_plain_member, quoted, json_member, json_more, json_object, IsJsonLine, IsNamedOrder, IsNamed}

-- ---- tests on all bytes

both : (a b : Bool) → (a && b) ≡ true → (a ≡ true) × (b ≡ true)
both true b h = (refl, h)
both false b h = cc

join : (a b : Bool) → a ≡ true → b ≡ true → (a && b) ≡ true
join a b h k = cc

-- bytes that pass a test pass each weaker one
weaker : (p q : ℕ → Bool) → ((b : ℕ) → p b ≡ true → q b ≡ true) → (bytes : List ℕ) → list_all p bytes ≡ true → list_all q bytes ≡ true
weaker p q follows [] h = refl
weaker p q follows (b ∷ bytes) h =
    let parts = both (p b) (list_all p bytes) h in
    join (q b) (list_all q bytes) (follows b parts.0) (weaker p q follows bytes parts.1)

-- two texts whose bytes pass pass one behind the other
together : (p : ℕ → Bool) (a b : List ℕ) → list_all p a ≡ true → list_all p b ≡ true → list_all p (a ++ b) ≡ true
together p a b h k = list_all-append p a b ∙ join (list_all p a) (list_all p b) h k

name_byte_is_plain : (b : ℕ) → is_name_byte b ≡ true → is_plain_byte b ≡ true
name_byte_is_plain b h = grind (arith, nat_tests)

plain_byte_is_printed : (b : ℕ) → is_plain_byte b ≡ true → is_printed b ≡ true
plain_byte_is_printed b h = (both (is_printed b) (not (b == 34) && not (b == 92)) h).0

pub name_is_plain : (name : List ℕ) → list_all is_name_byte name ≡ true → is_plain name ≡ true
name_is_plain name h = weaker is_name_byte is_plain_byte name_byte_is_plain name h

plain_is_printed : (bytes : List ℕ) → is_plain bytes ≡ true → list_all is_printed bytes ≡ true
plain_is_printed bytes h = weaker is_plain_byte is_printed plain_byte_is_printed bytes h

-- ---- digits

is_key : (z r d : ℕ) → d < r → (nat_le z (z + d) && nat_lt (z + d) (z + r)) ≡ true
is_key z r d h = grind (arith, nat_tests)

keys_of_numeral : (r z n x : ℕ) → 0 < r → list_all (λ b. nat_le z b && nat_lt b (z + r)) (numeral r z n x) ≡ true
unfolding numeral
keys_of_numeral r z zero x some = refl
keys_of_numeral r z (suc n) x some =
    together (λ b. nat_le z b && nat_lt b (z + r)) (numeral r z n (x / r)) ((z + x % r) ∷ [])
    (keys_of_numeral r z n (x / r) some) (join _ true (is_key z r (x % r) (mod_below x r some)) refl)

pub token_is_digits : (form : Form) (token : ℕ) → list_all (is_digit form) (digits_of form token) ≡ true
token_is_digits Nine token = keys_of_numeral 10 48 9 token (omega arith)
token_is_digits Fifteen token = keys_of_numeral 4 49 15 token (omega arith)

digit_is_plain : (form : Form) (b : ℕ) → is_digit form b ≡ true → is_plain_byte b ≡ true
digit_is_plain Nine b h = grind (arith, nat_tests)
digit_is_plain Fifteen b h = grind (arith, nat_tests)

pub token_is_plain : (form : Form) (token : ℕ) → is_plain (digits_of form token) ≡ true
token_is_plain form token =
    weaker (is_digit form) is_plain_byte (digit_is_plain form) (digits_of form token) (token_is_digits form token)

glyph_is_printed : (d : ℕ) → d < 10 → is_printed (digit_glyph false d) ≡ true
glyph_is_printed d h = grind (arith, nat_tests)

onto_is_printed : (k n : ℕ) (acc : List ℕ) → list_all is_printed acc ≡ true → list_all is_printed (digits_onto k 10 false n acc) ≡ true
onto_is_printed zero n acc h = h
onto_is_printed (suc k) n acc h =
    let glyph : ℕ = digit_glyph false (n % 10) in
    let more : list_all is_printed (glyph ∷ acc) ≡ true = join (is_printed glyph) (list_all is_printed acc) (glyph_is_printed (n % 10) (mod_below n 10 (omega arith))) h in
    elim (n / 10 == 0) as (λ last. list_all is_printed (if last then glyph ∷ acc else digits_onto k 10 false (n / 10) (glyph ∷ acc)) ≡ true) [
      | true ↦ more
      | false ↦ onto_is_printed k (n / 10) (glyph ∷ acc) more
    ]

decimal_is_printed : (n : ℕ) → list_all is_printed (decimal n) ≡ true
unfolding digits
decimal_is_printed n = onto_is_printed 64 n [] refl

-- ---- each plain object can be printed

quoted_is_printed : (bytes : List ℕ) → is_plain bytes ≡ true → list_all is_printed (quoted bytes) ≡ true
quoted_is_printed bytes h =
    together is_printed (codes "\"" ++ bytes) (codes "\"") (together is_printed (codes "\"") bytes refl (plain_is_printed bytes h)) refl

word_is_printed : (so : Bool) → list_all is_printed (word_of so) ≡ true
word_is_printed true = refl
word_is_printed false = refl

said_is_printed : (name said : List ℕ) → is_plain name ≡ true → list_all is_printed said ≡ true → list_all is_printed (quoted name ++ codes ":" ++ said) ≡ true
said_is_printed name said h k =
    together is_printed (quoted name ++ codes ":") said (together is_printed (quoted name) (codes ":") (quoted_is_printed name h) refl) k

member_is_printed : (member : Member) → is_plain_member member ≡ true → list_all is_printed (json_member member) ≡ true
member_is_printed (number name n) h = said_is_printed name (decimal n) h (decimal_is_printed n)
member_is_printed (text name bytes) h =
    let parts = both (is_plain name) (is_plain bytes) h in said_is_printed name (quoted bytes) parts.0 (quoted_is_printed bytes parts.1)
member_is_printed (truth name so) h = said_is_printed name (word_of so) h (word_is_printed so)

more_is_printed : (members : List Member) → list_all is_plain_member members ≡ true → list_all is_printed (json_more members) ≡ true
more_is_printed [] h = refl
more_is_printed (member ∷ members) h =
    let parts = both (is_plain_member member) (list_all is_plain_member members) h in
    together is_printed (codes "," ++ json_member member) (json_more members)
    (together is_printed (codes ",") (json_member member) refl (member_is_printed member parts.0)) (more_is_printed members parts.1)

object_is_printed : (members : List Member) → list_all is_plain_member members ≡ true → list_all is_printed (json_object members) ≡ true
object_is_printed [] h = refl
object_is_printed (member ∷ members) h =
    let parts = both (is_plain_member member) (list_all is_plain_member members) h in
    let first : list_all is_printed (codes "{" ++ json_member member) ≡ true = together is_printed (codes "{") (json_member member) refl (member_is_printed member parts.0) in
    let all : list_all is_printed (codes "{" ++ json_member member ++ json_more members) ≡ true = together is_printed (codes "{" ++ json_member member) (json_more members) first (more_is_printed members parts.1) in
    together is_printed (codes "{" ++ json_member member ++ json_more members) (codes "}") all refl

-- a text that is a plain object is a line of JSON
line_of : (line : List ℕ) (members : List Member) → line ≡ json_object members → list_all is_plain_member members ≡ true → IsJsonLine line
line_of line members is plain =
    record { members = members; object = is; plain = plain; printed = ap (list_all is_printed) is ∙ object_is_printed members plain }

-- ---- members that are put one behind the other

regroup_name : (f c q n k x : List ℕ) → (((f ++ (c ++ q)) ++ n) ++ (q ++ k)) ++ x ≡ f ++ (c ++ ((((q ++ n) ++ q) ++ k) ++ x))
regroup_name f c q n k x = simp append_assoc

regroup_text : (f q b : List ℕ) → ((f ++ q) ++ b) ++ q ≡ f ++ ((q ++ b) ++ q)
regroup_text f q b = simp append_assoc

regroup_why : (h d k q w m e : List ℕ) → (((((h ++ d) ++ (k ++ q)) ++ w) ++ q) ++ m) ++ e ≡ ((h ++ d) ++ ((k ++ ((q ++ w) ++ q)) ++ m)) ++ e
regroup_why h d k q w m e = simp append_assoc

with_member_is : (front : List ℕ) (member : Member) → with_member front member ≡ front ++ (codes "," ++ json_member member)
with_member_is front (number name n) = regroup_name front (codes ",") (codes "\"") name (codes ":") (decimal n)
with_member_is front (text name bytes) =
    regroup_text (with_name front name) (codes "\"") bytes ∙ regroup_name front (codes ",") (codes "\"") name (codes ":") (quoted bytes)
with_member_is front (truth name so) = regroup_name front (codes ",") (codes "\"") name (codes ":") (word_of so)

with_members_is : (front : List ℕ) (members : List Member) → with_members front members ≡ front ++ json_more members
with_members_is front [] = sym (append-nil front)
with_members_is front (member ∷ members) =
    with_members_is (with_member front member) members
    ∙ ap (λ before. before ++ json_more members) (with_member_is front member)
    ∙ append_assoc front (codes "," ++ json_member member) (json_more members)

done_is : (what : List ℕ) (members : List Member) → done_text what members ≡ json_object (text (codes "ok") what ∷ members)
done_is what members = ap (λ all. all ++ codes "}") (with_members_is ((codes "{\"ok\":\"" ++ what) ++ codes "\"") members)

refused_is : (refusal : ℕ) (why : List ℕ) (members : List Member) → refused_text refusal why members ≡ json_object (number (codes "no") refusal ∷ text (codes "why") why ∷ members)
refused_is refusal why members =
    ap (λ all. all ++ codes "}") (with_members_is ((((codes "{\"no\":" ++ decimal refusal) ++ codes ",\"why\":\"") ++ why) ++ codes "\"") members)
    ∙ regroup_why (codes "{\"no\":") (decimal refusal) (codes ",\"why\":") (codes "\"") why (json_more members) (codes "}")

-- ---- the members of answers are plain

kind_is_plain : (kind : Kind) → is_plain (kind_name kind) ≡ true
kind_is_plain kind_is.Add = refl
kind_is_plain kind_is.Set = refl
kind_is_plain kind_is.Disable = refl
kind_is_plain kind_is.Sync = refl

order_is_plain : (order : Order) (form : Form) → IsNamedOrder order → list_all is_plain_member (order_members order form) ≡ true
order_is_plain order form named =
    let id : is_plain order.id ≡ true = name_is_plain order.id named.id in
    let serial : is_plain order.serial ≡ true = name_is_plain order.serial named.serial in
    let kind : is_plain (kind_name order.kind) ≡ true = kind_is_plain order.kind in
    let token : is_plain (digits_of form order.token) ≡ true = token_is_plain form order.token in
    join (is_plain order.id) _ id (join (is_plain order.serial) _ serial (join (is_plain (kind_name order.kind)) _ kind (join (is_plain (digits_of form order.token)) true token refl)))

limit_is_plain : (limit : ℕ) → list_all is_plain_member (limit_members limit) ≡ true
limit_is_plain limit = elim (limit == GREAT) as (λ so. list_all is_plain_member (if so then number (codes "limit") GREAT ∷ [] else []) ≡ true) [
  | true ↦ refl
  | false ↦ refl
]

row_is_plain : (row : Row) → list_all is_name_byte row.serial ≡ true → list_all is_plain_member (row_members row) ≡ true
row_is_plain row named =
    join (is_plain row.serial) (list_all is_plain_member (limit_members row.limit)) (name_is_plain row.serial named) (limit_is_plain row.limit)

change_is_plain : (change : PriceChange) → list_all is_name_byte change.serial ≡ true → list_all is_plain_member (change_members change) ≡ true
change_is_plain change named = join (is_plain change.serial) true (name_is_plain change.serial named) refl

quote_is_plain : (quote : Quote) → list_all is_name_byte quote.serial ≡ true → list_all is_plain_member (quote_members quote) ≡ true
quote_is_plain quote named =
    join (is_plain quote.serial) _ (name_is_plain quote.serial named) (join (is_plain (kind_name quote.kind)) true (kind_is_plain quote.kind) refl)

done_line : (what : List ℕ) (members : List Member) → is_plain what ≡ true → list_all is_plain_member members ≡ true → IsJsonLine (done_text what members)
done_line what members h k = line_of _ (text (codes "ok") what ∷ members) (done_is what members) (join (is_plain what) _ h k)

refused_line : (refusal : ℕ) (why : List ℕ) (members : List Member) → is_plain why ≡ true → list_all is_plain_member members ≡ true → IsJsonLine (refused_text refusal why members)
refused_line refusal why members h k =
    line_of _ (number (codes "no") refusal ∷ text (codes "why") why ∷ members) (refused_is refusal why members) (join (is_plain why) _ h k)

-- ---- each answer, and each refusal of a line

pub answer_is_line : (answer : Answer) → IsNamed answer → IsJsonLine (text_of_answer answer)
unfolding text_of_answer
answer_is_line (answer_is.Order order form) named = done_line (codes "order") (order_members order form) refl (order_is_plain order form named)
answer_is_line (answer_is.Row row) named = done_line (codes "row") (row_members row) refl (row_is_plain row named)
answer_is_line (answer_is.Price change) named = done_line (codes "price") (change_members change) refl (change_is_plain change named)
answer_is_line answer_is.NoDevice named = refused_line 1 (codes "no device") [] refl refl
answer_is_line (answer_is.IdUsed order form) named = refused_line 2 (codes "id used") (order_members order form) refl (order_is_plain order form named)
answer_is_line (answer_is.SerialUsed row) named = refused_line 3 (codes "serial used") (row_members row) refl (row_is_plain row named)
answer_is_line (answer_is.Closed paid) named = refused_line 4 (codes "closed") (number (codes "paid") paid ∷ []) refl refl
answer_is_line (answer_is.Small have price) named =
    refused_line 5 (codes "small") (number (codes "have") have ∷ number (codes "price") price ∷ []) refl refl
answer_is_line (answer_is.Large units) named = refused_line 6 (codes "large") (number (codes "units") units ∷ []) refl refl
answer_is_line (answer_is.NoCount last) named = refused_line 7 (codes "no count") (number (codes "last") last ∷ []) refl refl
answer_is_line answer_is.NoOrder named = refused_line 8 (codes "no order") [] refl refl
answer_is_line (answer_is.PriceUsed price) named = refused_line 11 (codes "price used") (number (codes "price") price ∷ []) refl refl
answer_is_line (answer_is.Quote quote) named = done_line (codes "quote") (quote_members quote) refl (quote_is_plain quote named)
answer_is_line (answer_is.Beyond limit) named = refused_line 13 (codes "beyond") (number (codes "limit") limit ∷ []) refl refl
answer_is_line (answer_is.Stale last) named = refused_line 12 (codes "stale") (number (codes "last") last ∷ []) refl refl

pub fault_is_line : (fault : TextFault) → fault ≢ fault_is.Memory → IsJsonLine (text_of_fault fault)
unfolding text_of_fault
fault_is_line fault_is.Json other = refused_line 9 (codes "json") [] refl refl
fault_is_line (fault_is.Shape rule) other = refused_line 10 (codes "shape") (number (codes "rule") rule ∷ []) refl refl
fault_is_line fault_is.Memory other = absurd (other refl)
