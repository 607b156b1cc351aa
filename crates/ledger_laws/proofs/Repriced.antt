-- A change of a price is answered again, whatever was asked of the ledger since.
use Rattle.std.proofs.Common.{◌≡◌, ℕ, List, [], ◌∷◌, filter, Bool, true, false, ◌==◌, Option, Some, None, cond, refl, sym, ap, subst, ◌∙◌}
use Rattle.std.specs.Prelude.{find}
use Rattle.std.proofs.lemmas.Bool.{eq-eqb}
use Rattle.ledger_spec.specs.declared.Row.{Row}
use Rattle.ledger_spec.specs.declared.PriceChange.{PriceChange}
use Rattle.ledger_spec.specs.declared.Answer.{Answer}
use Rattle.ledger_spec.specs.declared.Answer.TheVariants as answer_is
use Rattle.ledger_spec.specs.declared.Command.{Command}
use Rattle.ledger_spec.specs.declared.Command.TheVariants as command_is
use Rattle.ledger_spec.specs.Putting.{put_among, sorted_by}
use Rattle.ledger_spec.specs.Tables.{Tables, row_of, change_of, change_in, prices_in, has_from, is_change_of, change_before, Kept}
use Rattle.ledger_spec.specs.Ledger.{done, stays, repriced, changed_of, changed_at, change_to, IsCommand}
use Rattle.ledger_spec.proofs.NameLemmas.{self_same}
use Rattle.ledger_spec.specs.Sound.{StaysBelow}
use Rattle.ledger_laws.specs.Later.{Later, Runs}
use Rattle.ledger_laws.proofs.LaterLemmas.{done_well, run_well}

-- what is put among others, of which none passes, is found
find_own : {X : Type 0} (p : X → Bool) (before : X → X → Bool) (x : X) (ys : List X) → p x ≡ true → find p ys ≡ None → find p (put_among before x ys) ≡ Some x
find_own p before x [] own none = ap (λ b. cond b (Some x) None) own
find_own p before x (y ∷ ys) own none = (elim (p y) as (λ t. p y ≡ t → cond t (Some y) (find p ys) ≡ None → find p (put_among before x (y ∷ ys)) ≡ Some x) [
  | true ↦ λ passes bad. cc
  | false ↦ λ not rest. elim (before y x) as (λ b. find p (cond b (y ∷ put_among before x ys) (x ∷ y ∷ ys)) ≡ Some x) [
    | true ↦ ap (λ b. cond b (Some y) (find p (put_among before x ys))) not ∙ find_own p before x ys own rest
    | false ↦ ap (λ b. cond b (Some x) (find p (y ∷ ys))) own
  ]
]) refl none

change_found : (change : PriceChange) (changes : List PriceChange) → change_in changes change.serial change.from ≡ None → change_in (change ∷ changes) change.serial change.from ≡ Some change
change_found change changes none =
    ap (λ b. find (has_from change.from) (sorted_by change_before (cond b (change ∷ filter (is_change_of change.serial) changes) (filter (is_change_of change.serial) changes)))) (self_same change.serial)
    ∙ find_own (has_from change.from) change_before change (prices_in changes change.serial) (eq-eqb change.from change.from refl) none

-- A change is the answer to who asks for this one.
pub record IsChange (t : Tables) (asked change : PriceChange) : Type 0 where
  pub row : (row : Row) × (row_of t asked.serial ≡ Some row)
  pub found : change_of t asked.serial asked.from ≡ Some change
  pub price : (change.price == asked.price) ≡ true

change_later : (t later : Tables) (asked change : PriceChange) → Later t later → IsChange t asked change → IsChange later asked change
change_later t later asked change goes is =
    let now = goes.rows asked.serial is.row.0 is.row.1 in
    record { row = (now.0, now.1); found = goes.changes asked.serial asked.from change is.found; price = is.price }

change_again : (t : Tables) (asked change : PriceChange) → IsChange t asked change → repriced t asked (row_of t asked.serial) ≡ stays t (answer_is.Price change)
change_again t asked change is =
    ap (λ (o : Option Row). repriced t asked o) is.row.1
    ∙ ap (λ (o : Option PriceChange). changed_of t asked is.row.0 o) is.found
    ∙ ap (λ (b : Bool). stays t (cond b (answer_is.Price change) (answer_is.PriceUsed change.price))) is.price

added_change : (t : Tables) (asked : PriceChange) (row : Row) (newest : Bool) (change : PriceChange) → row_of t asked.serial ≡ Some row → change_of t asked.serial asked.from ≡ None
    → (changed_at t asked row newest).answer ≡ answer_is.Price change → IsChange (changed_at t asked row newest).tables asked change
added_change t asked row true change row_is none is =
    let one : asked ≡ change = cc in
    record {
      row = (row, row_is);
      found = change_found asked t.changes none ∙ ap (λ (c : PriceChange). Some c) one;
      price = ap (λ (c : PriceChange). c.price == asked.price) (sym one) ∙ eq-eqb asked.price asked.price refl;
    }
added_change t asked row false change row_is none is = cc

kept_change : (t : Tables) (asked : PriceChange) (row : Row) (kept change : PriceChange) → row_of t asked.serial ≡ Some row → change_of t asked.serial asked.from ≡ Some kept
    → (changed_of t asked row (Some kept)).answer ≡ answer_is.Price change → IsChange t asked change
kept_change t asked row kept change row_is found is = (elim (kept.price == asked.price) as (λ b. (kept.price == asked.price) ≡ b → cond b (answer_is.Price kept) (answer_is.PriceUsed kept.price) ≡ answer_is.Price change → IsChange t asked change) [
  | true ↦ λ same is.
      let one : kept ≡ change = cc in
      subst (λ (c : PriceChange). IsChange t asked c) one record { row = (row, row_is); found = found; price = same }
  | false ↦ λ same is. cc
]) refl is

change_of_answer : (t : Tables) (asked : PriceChange) (row : Row) (found : Option PriceChange) (change : PriceChange) → row_of t asked.serial ≡ Some row → change_of t asked.serial asked.from ≡ found
    → (changed_of t asked row found).answer ≡ answer_is.Price change → IsChange (changed_of t asked row found).tables asked change
change_of_answer t asked row (Some kept) change row_is found_is is = kept_change t asked row kept change row_is found_is is
change_of_answer t asked row None change row_is found_is is = added_change t asked row (asked.from == row.last) change row_is found_is is

change_answer : (t : Tables) (asked : PriceChange) (found : Option Row) (change : PriceChange) → row_of t asked.serial ≡ found → (repriced t asked found).answer ≡ answer_is.Price change → IsChange (repriced t asked found).tables asked change
change_answer t asked None change row_is is = cc
change_answer t asked (Some row) change row_is is = change_of_answer t asked row (change_of t asked.serial asked.from) change row_is refl is

-- a change that was answered is answered again after any run of commands, and changes nothing
pub priced_after : (next : List ℕ → ℕ → ℕ) → StaysBelow next → (t later : Tables) (serial : List ℕ) (from price : ℕ) (change : PriceChange) (commands : List Command) (answers : List (Option Answer)) → Kept t → IsCommand (command_is.Price serial from price)
    → (done next t (command_is.Price serial from price)).answer ≡ answer_is.Price change → Runs next (done next t (command_is.Price serial from price)).tables commands answers later
    → done next later (command_is.Price serial from price) ≡ stays later (answer_is.Price change)
priced_after next below t later serial from price change commands answers kept may is runs =
    let asked : PriceChange = change_to serial from price in
    let goes : Later (done next t (command_is.Price serial from price)).tables later = (run_well next below commands answers (done next t (command_is.Price serial from price)).tables later (done_well next below t (command_is.Price serial from price) kept may).kept runs).later in
    change_again later asked change (change_later (done next t (command_is.Price serial from price)).tables later asked change goes (change_answer t asked (row_of t serial) change refl is))
