-- What the columns say is what was stored.
use Rattle.std.proofs.Common.{◌≡◌, ℕ, ◌==◌, ◌^◌, ◌++◌, List, [], ◌∷◌, map, Bool, true, false, not, nat_lt, ◌||◌, Option, Some, None, cond, refl, sym, ap, ◌∙◌, arith}
use Rattle.std.specs.List.{AllByRecursion}
use Rattle.std.specs.Option.{option_map}
use Rattle.std.proofs.lemmas.Option.{cond_some, same_Some}
use Rattle.std.proofs.lemmas.Bool.Decides.{nat_tests}
use Rattle.paygo_spec.specs.declared.Form.{Form}
use Rattle.paygo_spec.specs.declared.Form.TheVariants.{Nine, Fifteen}
use Rattle.paygo_spec.specs.declared.TheConstants.{GREAT, LAST}
use Rattle.ledger_spec.specs.declared.Row.{Row}
use Rattle.ledger_spec.specs.declared.Order.{Order}
use Rattle.ledger_spec.specs.declared.PriceChange.{PriceChange}
use Rattle.ledger_spec.specs.declared.Ask.{Ask}
use Rattle.ledger_spec.specs.declared.Ask.TheVariants.{Pay, Set, Disable, Sync}
use Rattle.ledger_spec.specs.declared.Kind.{Kind}
use Rattle.ledger_spec.specs.declared.Kind.TheVariants as kind
use Rattle.ledger_spec.specs.Tables.{AreRows, is_limit}
use Rattle.table_columns.specs.Columns.{below, key_in, name_in_column}
use Rattle.table_columns.specs.Said.{given, ask_code, asked_code, kind_code, ask_in, kind_in, flag_in, form_in_column, limit_in, order_said, change_said, row_said}
use Rattle.table_columns.specs.Forms.{form_for, form_said}
use Rattle.shop_tables.specs.Stored.{count, flag, order_columns, change_columns, row_columns}
use Rattle.sqlite.specs.declared.types.Value.TheVariants.{Text, Blob}
use Rattle.paygo_spec.specs.Digits.{digit_count}

-- One step of a chain, whose value, if there is one, is known.
step : {A B : Type 0} (value : Option A) (a : A) (next : A → Option B) (y : B) → ((x : A) → value ≡ Some x → x ≡ a) → given value next ≡ Some y → next a ≡ Some y
step None a next y is h = absurd (let bad : None ≡ Some y = h in cc)
step (Some x) a next y is h = ap next (sym (is x refl)) ∙ h

-- a value that is kept where it passes a test
kept : {A : Type 0} (t : Bool) (a x : A) → cond t (Some a) None ≡ Some x → x ≡ a
kept t a x h = sym (cond_some t a x h).1

name_kept : (name x : List ℕ) → name_in_column 32 (Text name) ≡ Some x → x ≡ name
name_kept name x h = kept _ name x h

key_kept : (key x : List ℕ) → key_in (Blob key) ≡ Some x → x ≡ key
key_kept key x h = kept _ key x h

below_kept : (bound n x : ℕ) → below bound n ≡ Some x → x ≡ n
below_kept bound n x h = kept _ n x h

ask_kept : (ask x : Ask) → ask_in (ask_code ask) (asked_code ask) ≡ Some x → x ≡ ask
ask_kept (Pay amount) x h = sym (same_Some (Pay amount) x h)
ask_kept (Set units) x h = (elim (nat_lt units (2 ^ 16)) as (λ t. option_map (λ n. Set n) (cond t (Some units) None) ≡ Some x → x ≡ Set units) [
  | true ↦ λ h. sym (same_Some (Set units) x h)
  | false ↦ λ h. absurd (let bad : None ≡ Some x = h in cc)
]) h
ask_kept Disable x h = sym (same_Some Disable x h)
ask_kept Sync x h = sym (same_Some Sync x h)

kind_kept : (k x : Kind) → kind_in (kind_code k) ≡ Some x → x ≡ k
kind_kept kind.Add x h = sym (same_Some kind.Add x h)
kind_kept kind.Set x h = sym (same_Some kind.Set x h)
kind_kept kind.Disable x h = sym (same_Some kind.Disable x h)
kind_kept kind.Sync x h = sym (same_Some kind.Sync x h)

form_kept : (form x : Form) → form_in_column (count (digit_count form)) ≡ Some x → x ≡ form
form_kept Nine x h = sym (same_Some Nine x h)
form_kept Fifteen x h = sym (same_Some Fifteen x h)

flag_kept : (b x : Bool) → flag_in (flag b) ≡ Some x → x ≡ b
flag_kept true x h = sym (same_Some true x h)
flag_kept false x h = sym (same_Some false x h)

limit_kept : (limit x : ℕ) → is_limit limit ≡ true → limit_in (flag (not (limit == LAST))) ≡ Some x → x ≡ limit
limit_kept limit x one h = (elim (limit == LAST) as (λ t. (limit == LAST) ≡ t → (t || (limit == GREAT)) ≡ true → limit_in (flag (not t)) ≡ Some x → x ≡ limit) [
  | true ↦ λ is one h. let low : LAST ≡ x = same_Some LAST x h in grind (arith, nat_tests)
  | false ↦ λ is one h. let high : GREAT ≡ x = same_Some GREAT x h in grind (arith, nat_tests)
]) refl one h

-- The columns of an order say it.
pub order_decoded : (order x : Order) → order_said (order_columns order) ≡ Some x → x ≡ order
unfolding order_said
order_decoded order x h =
    let after_id = step _ order.id _ x (name_kept order.id) h in
    let after_serial = step _ order.serial _ x (name_kept order.serial) after_id in
    let after_ask = step _ order.ask _ x (ask_kept order.ask) after_serial in
    let after_kind = step _ order.kind _ x (kind_kept order.kind) after_ask in
    let after_count = step _ order.count _ x (below_kept (2 ^ 16) order.count) after_kind in
    let after_value = step _ order.value _ x (below_kept (2 ^ 16) order.value) after_count in
    let after_token = step _ order.token _ x (below_kept (2 ^ 32) order.token) after_value in
    sym (same_Some order x after_token)

-- The columns of a change say it.
pub change_decoded : (change x : PriceChange) → change_said (change_columns change) ≡ Some x → x ≡ change
unfolding change_said
change_decoded change x h =
    let after_serial = step _ change.serial _ x (name_kept change.serial) h in
    let after_from = step _ change.from _ x (below_kept (2 ^ 16) change.from) after_serial in
    sym (same_Some change x after_from)

-- The columns of a row say it, where its limit is one that a row may have.
pub row_decoded : (row x : Row) → is_limit row.limit ≡ true → row_said 0 (row_columns row) ≡ Some x → x ≡ row
unfolding row_said
row_decoded row x one h =
    let after_serial = step _ row.serial _ x (name_kept row.serial) h in
    let after_key = step _ row.key _ x (key_kept row.key) after_serial in
    let after_start = step _ row.start _ x (below_kept (2 ^ 32) row.start) after_key in
    let after_divider = step _ row.divider _ x (below_kept (2 ^ 8) row.divider) after_start in
    let after_form = step _ row.form _ x (form_kept row.form) after_divider in
    let after_last = step _ row.last _ x (below_kept (2 ^ 16) row.last) after_form in
    let after_closed = step _ row.closed _ x (flag_kept row.closed) after_last in
    let after_limit = step _ row.limit _ x (λ limit. limit_kept row.limit limit one) after_closed in
    sym (same_Some row x after_limit)

-- behind the columns of an order those of a row say what they say on their own
said_behind : (order : Order) (row : Row) → row_said 8 (order_columns order ++ row_columns row) ≡ row_said 0 (row_columns row)
unfolding row_said
said_behind order row = refl

-- The form that is told with an order is that of the row behind it.
pub form_decoded : (order : Order) (row : Row) (f : Form) → is_limit row.limit ≡ true → form_said 8 order.serial (order_columns order ++ row_columns row) ≡ Some f → f ≡ row.form
form_decoded order row f one h =
    kept _ row.form f (step (row_said 8 (order_columns order ++ row_columns row)) row (form_for order.serial) f (λ x is. row_decoded row x one (sym (said_behind order row) ∙ is)) h)

-- a list of columns, where the columns of each element say it
module _ {C X : Type 0} (said : C → Option X) (columns : X → C) (Are : List X → Type 0) (first : (y : X) (ys : List X) → Are (y ∷ ys) → (x : X) → said (columns y) ≡ Some x → x ≡ y)
    (others : (y : X) (ys : List X) → Are (y ∷ ys) → Are ys) where
  listed : (ys xs : List X) → Are ys → map Some xs ≡ map said (map columns ys) → xs ≡ ys
  listed [] [] are h = refl
  listed [] (x ∷ xs) are h = absurd (let bad : Some x ∷ map Some xs ≡ [] = h in cc)
  listed (y ∷ ys) [] are h = absurd (let bad : [] ≡ said (columns y) ∷ map said (map columns ys) = h in cc)
  listed (y ∷ ys) (x ∷ xs) are h =
      let here : Some x ≡ said (columns y) = cc in
      let there : map Some xs ≡ map said (map columns ys) = cc in
      rw (first y ys are x (sym here), listed ys xs (others y ys are) there) refl

-- Orders that the columns of orders say are these.
pub orders_decoded : (orders xs : List Order) → map Some xs ≡ map order_said (map order_columns orders) → xs ≡ orders
orders_decoded orders xs h = listed order_said order_columns (λ _. Unit {0}) (λ y ys are x. order_decoded y x) (λ y ys are. tt) orders xs tt h

-- Changes that the columns of changes say are these.
pub changes_decoded : (changes xs : List PriceChange) → map Some xs ≡ map change_said (map change_columns changes) → xs ≡ changes
changes_decoded changes xs h = listed change_said change_columns (λ _. Unit {0}) (λ y ys are x. change_decoded y x) (λ y ys are. tt) changes xs tt h

-- the limit is one that a row may have
abbrev pub HasLimit : Row → Type 0
HasLimit row = is_limit row.limit ≡ true

pub have_limits : (rows : List Row) → AreRows rows → AllByRecursion HasLimit rows
have_limits [] are = tt
have_limits (row ∷ rows) are = (are.0.limit, have_limits rows are.2)

-- Rows that the columns of rows say are these.
pub rows_decoded : (rows xs : List Row) → AllByRecursion HasLimit rows → map Some xs ≡ map (row_said 0) (map row_columns rows) → xs ≡ rows
rows_decoded rows xs are h = listed (row_said 0) row_columns (AllByRecursion HasLimit) (λ y ys are x. row_decoded y x are.0) (λ y ys are. are.1) rows xs are h
