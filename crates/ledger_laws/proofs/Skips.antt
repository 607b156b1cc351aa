-- No count up to that of a skip is sold again.
use Rattle.std.proofs.Common.{◌≡◌, ℕ, ◌+◌, ◌<◌, ◌≤◌, List, [], ◌∷◌, Bool, true, false, max, ◌⊎◌, inl, inr, ◌==◌, Option, Some, None, Result, Ok, Err, cond, nat_lt, refl, sym, ap, subst, ◌∙◌, arith}
use Rattle.std.specs.Prelude.{nat_le, find}
use Rattle.std.proofs.lemmas.Bool.{ltb-false}
use Rattle.paygo_spec.specs.declared.TheConstants.{LAST}
use Rattle.paygo_spec.specs.Chain.{token_at}
use Rattle.paygo_spec.specs.Searched.{IsClean}
use Rattle.ledger_spec.specs.declared.Row.{Row}
use Rattle.ledger_spec.specs.declared.Order.{Order}
use Rattle.ledger_spec.specs.declared.Ask.{Ask}
use Rattle.ledger_spec.specs.declared.Ask.TheVariants as asks
use Rattle.ledger_spec.specs.declared.Answer.{Answer}
use Rattle.ledger_spec.specs.declared.Answer.TheVariants as answer_is
use Rattle.ledger_spec.specs.declared.Issue.{Issue}
use Rattle.ledger_spec.specs.declared.Enrol.{Enrol}
use Rattle.ledger_spec.specs.declared.PriceChange.{PriceChange}
use Rattle.ledger_spec.specs.declared.Command.{Command}
use Rattle.ledger_spec.specs.declared.Command.TheVariants as command_is
use Rattle.ledger_spec.specs.Names.{same_name}
use Rattle.ledger_spec.specs.Tables.{Tables, has_id, row_of, order_of, order_in, rows_with, price_at, change_of, lifted_row, lifted_by, RowIsInRange, AskIsInRange, Kept}
use Rattle.ledger_spec.specs.Issuing.{pick}
use Rattle.ledger_spec.specs.Ledger.{done, enrolled, asked, asked_of, issued, issued_at, offered, order_at, raises, raised_at, repriced, changed_of, changed_at, change_to, skipped, skipped_at, lifted_at, IsCommand}
use Rattle.ledger_spec.proofs.NameLemmas.{same_or_not, is_same}
use Rattle.ledger_spec.proofs.Lookups.{found_serial, row_found_again, row_same}
use Rattle.ledger_spec.proofs.KeptLemmas.{row_kept, some_is, order_kept}
use Rattle.ledger_spec.proofs.PriceLemmas.{price_in_range}
use Rattle.ledger_spec.proofs.IssueLemmas.{IssueFits, issue_fits, picked}
use Rattle.ledger_spec.specs.Sound.{StaysBelow, Sound}
use Rattle.ledger_laws.specs.Later.{GoesOn, Later, Asked, Runs}
use Rattle.ledger_laws.specs.Skipped.{OnlyAbove}
use Rattle.ledger_laws.proofs.LaterLemmas.{done_well, run_well}
use Rattle.ledger_laws.proofs.Laws.{runs_sound, command_sound, same_value}

-- The orders that a command leaves are those that there were, or one more for a device that has a row, with a count above that
-- row's last one.
pub record AddsOne (t new : Tables) : Type 0 where
  pub order : Order
  pub row : Row
  pub orders : new.orders ≡ order ∷ t.orders
  pub row_is : row_of t order.serial ≡ Some row
  pub above : row.last < order.count

abbrev Adds : Tables → Tables → Type 0
Adds t new = (new.orders ≡ t.orders) ⊎ AddsOne t new

module _ (next : List ℕ → ℕ → ℕ) where
  issued_at_adds : (t : Tables) (id : List ℕ) (ask : Ask) (row : Row) (issue : Issue) (found : Option ℕ) → IssueFits (price_at t row (row.last + 1)) row ask issue → row_of t row.serial ≡ Some row
      → pick (next issue.row.key) issue.row.start issue.row.limit issue.row.last issue.kind issue.value ≡ found → Adds t (issued_at next t id ask issue found).tables
  issued_at_adds t id ask row issue None fits is pick_is = inl refl
  issued_at_adds t id ask row issue (Some count) fits is pick_is =
      let high : issue.row.last < count = (picked (next issue.row.key) issue.row.start issue.row.limit issue.row.last issue.kind issue.value count pick_is).above in
      let same : issue.row.last ≡ row.last = fits.last in
      inr record { order = order_at next id ask issue count; row = row; orders = refl; row_is = ap (λ s. row_of t s) fits.serial ∙ is; above = omega arith }

  issued_adds : (t : Tables) (id : List ℕ) (ask : Ask) (row : Row) (what : Result Issue Answer) → offered t row ask ≡ what → Kept t → RowIsInRange row → AskIsInRange ask → row_of t row.serial ≡ Some row → Adds t (issued next t id ask what).tables
  issued_adds t id ask row (Err refusal) what_is kept in_range asked is = inl refl
  issued_adds t id ask row (Ok issue) what_is kept in_range asked is =
      issued_at_adds t id ask row issue (pick (next issue.row.key) issue.row.start issue.row.limit issue.row.last issue.kind issue.value) (issue_fits (price_at t row (row.last + 1)) (price_in_range t row (row.last + 1) kept in_range) row in_range ask issue asked what_is) is refl

  asked_of_adds : (t : Tables) (id serial : List ℕ) (ask : Ask) (row : Row) (found : Option Order) → Kept t → RowIsInRange row → AskIsInRange ask → row_of t row.serial ≡ Some row → Adds t (asked_of next t id serial ask row found).tables
  asked_of_adds t id serial ask row (Some order) kept in_range asked is = inl refl
  asked_of_adds t id serial ask row None kept in_range asked is = issued_adds t id ask row (offered t row ask) refl kept in_range asked is

  asked_adds : (t : Tables) (id serial : List ℕ) (ask : Ask) (found : Option Row) → row_of t serial ≡ found → Kept t → AskIsInRange ask → Adds t (asked next t id serial ask found).tables
  asked_adds t id serial ask None found_is kept asked = inl refl
  asked_adds t id serial ask (Some row) found_is kept asked =
      asked_of_adds t id serial ask row (order_of t id) kept (row_kept t.rows serial row kept.rows found_is) asked (row_found_again t.rows serial row found_is)

  enrolled_adds : (t : Tables) (enrol : Enrol) (found : Option Row) → Adds t (enrolled t enrol found).tables
  enrolled_adds t enrol None = inl refl
  enrolled_adds t enrol (Some row) = inl refl

  raised_at_adds : (t : Tables) (row : Row) (low : Bool) → Adds t (raised_at t row low).tables
  raised_at_adds t row true = inl refl
  raised_at_adds t row false = inl refl

  raises_adds : (t : Tables) (found : Option Row) → Adds t (raises t found).tables
  raises_adds t None = inl refl
  raises_adds t (Some row) = raised_at_adds t row (row.limit == LAST)

  changed_at_adds : (t : Tables) (change : PriceChange) (row : Row) (newest : Bool) → Adds t (changed_at t change row newest).tables
  changed_at_adds t change row true = inl refl
  changed_at_adds t change row false = inl refl

  changed_of_adds : (t : Tables) (change : PriceChange) (row : Row) (found : Option PriceChange) → Adds t (changed_of t change row found).tables
  changed_of_adds t change row (Some old) = inl refl
  changed_of_adds t change row None = changed_at_adds t change row (change.from == row.last)

  repriced_adds : (t : Tables) (change : PriceChange) (found : Option Row) → Adds t (repriced t change found).tables
  repriced_adds t change None = inl refl
  repriced_adds t change (Some row) = changed_of_adds t change row (change_of t change.serial change.from)

  lifted_at_adds : (t : Tables) (to : ℕ) (row : Row) (within : Bool) → (lifted_at t to row within).tables.orders ≡ t.orders
  lifted_at_adds t to row true = refl
  lifted_at_adds t to row false = refl

  skipped_at_adds : (t : Tables) (to : ℕ) (row : Row) (above : Bool) → (skipped_at t to row above).tables.orders ≡ t.orders
  skipped_at_adds t to row true = lifted_at_adds t to row (nat_le to row.limit)
  skipped_at_adds t to row false = refl

  skipped_adds : (t : Tables) (to : ℕ) (found : Option Row) → (skipped t to found).tables.orders ≡ t.orders
  skipped_adds t to None = refl
  skipped_adds t to (Some row) = skipped_at_adds t to row (nat_lt row.last to)

  done_adds : (t : Tables) (command : Command) → Kept t → IsCommand command → Adds t (done next t command).tables
  done_adds t (command_is.Enroll enrol) kept may = enrolled_adds t enrol (row_of t enrol.serial)
  done_adds t (command_is.Pay id serial amount) kept may = asked_adds t id serial (asks.Pay amount) (row_of t serial) refl kept may
  done_adds t (command_is.Set id serial units) kept may = asked_adds t id serial (asks.Set units) (row_of t serial) refl kept may
  done_adds t (command_is.Disable id serial) kept may = asked_adds t id serial asks.Disable (row_of t serial) refl kept tt
  done_adds t (command_is.Sync id serial) kept may = asked_adds t id serial asks.Sync (row_of t serial) refl kept tt
  done_adds t (command_is.Order id) kept may = inl refl
  done_adds t (command_is.Show serial) kept may = inl refl
  done_adds t (command_is.Raise serial) kept may = raises_adds t (row_of t serial)
  done_adds t (command_is.Price serial from price) kept may = repriced_adds t (change_to serial from price) (row_of t serial)
  done_adds t (command_is.Quote serial amount) kept may = inl refl
  done_adds t (command_is.Skip serial to) kept may = inl (skipped_adds t to (row_of t serial))

-- A device has a row whose last count is at least this one.
pub record IsPast (to : ℕ) (serial : List ℕ) (t : Tables) : Type 0 where
  pub row : Row
  pub is : row_of t serial ≡ Some row
  pub past : to ≤ row.last

past_later : (to : ℕ) (serial : List ℕ) (t later : Tables) → IsPast to serial t → Later t later → IsPast to serial later
past_later to serial t later past goes =
    let now = goes.rows serial past.row past.is in
    let low : to ≤ past.row.last = past.past in
    let high : past.row.last ≤ now.0.last = now.2.last in
    record { row = now.0; is = now.1; past = omega arith }

above_still : (to : ℕ) (serial : List ℕ) (t : Tables) → OnlyAbove to serial t t
above_still to serial t = λ id order is own. inl is

above_then : (to : ℕ) (serial : List ℕ) (a b c : Tables) → OnlyAbove to serial a b → OnlyAbove to serial b c → OnlyAbove to serial a c
above_then to serial a b c one two = λ id order is own. elim (two id order is own) [
  | inl before ↦ one id order before own
  | inr high ↦ inr high
]

one_of : {X : Type 0} (a b : X) → Some a ≡ Some b → a ≡ b
one_of a b is = cc

-- the order that is found behind a new one is that one, or was found before
order_behind : (new : Order) (orders : List Order) (id : List ℕ) (order : Order) → order_in (new ∷ orders) id ≡ Some order → (order_in orders id ≡ Some order) ⊎ (new ≡ order)
order_behind new orders id order is = elim (same_or_not new.id id) [
  | inl same ↦ inr (one_of new order (sym (ap (λ b. cond b (Some new) (order_in orders id)) (is_same new.id id same)) ∙ is))
  | inr other ↦ inl (sym (ap (λ b. cond b (Some new) (order_in orders id)) other) ∙ is)
]

-- where the row of a device is past a count, what is added for it is above the count
added_above : (to : ℕ) (serial : List ℕ) (t new : Tables) → IsPast to serial t → Adds t new → OnlyAbove to serial t new
added_above to serial t new past (inl same) = λ id order is own. inl (sym (ap (λ (l : List Order). order_in l id) same) ∙ is)
added_above to serial t new past (inr more) = λ id order is own.
    elim (order_behind more.order t.orders id order (sym (ap (λ (l : List Order). order_in l id) more.orders) ∙ is)) [
      | inl before ↦ inl before
      | inr it ↦
          let serials : more.order.serial ≡ serial = ap (λ (o : Order). o.serial) it ∙ own in
          let rows : more.row ≡ past.row = one_of more.row past.row (sym more.row_is ∙ ap (λ s. row_of t s) serials ∙ past.is) in
          let lasts : more.row.last ≡ past.row.last = ap (λ (r : Row). r.last) rows in
          let counts : more.order.count ≡ order.count = ap (λ (o : Order). o.count) it in
          let low : to ≤ past.row.last = past.past in
          let high : more.row.last < more.order.count = more.above in
          inr (omega arith)
    ]

module _ (next : List ℕ → ℕ → ℕ) (below : StaysBelow next) where
  -- the tables after a step of a run
  step_above : (to : ℕ) (serial : List ℕ) (t new : Tables) (command : Command) (answer : Option Answer) → Kept t → IsPast to serial t → IsCommand command → Asked next t command answer new → OnlyAbove to serial t new
  step_above to serial t new command answer kept past may (inl whole) = subst (λ (u : Tables). OnlyAbove to serial t u) (sym whole.1) (added_above to serial t (done next t command).tables past (done_adds next t command kept may))
  step_above to serial t new command answer kept past may (inr (none, inl same)) = subst (λ (u : Tables). OnlyAbove to serial t u) (sym same) (above_still to serial t)
  step_above to serial t new command answer kept past may (inr (none, inr whole)) = subst (λ (u : Tables). OnlyAbove to serial t u) (sym whole) (added_above to serial t (done next t command).tables past (done_adds next t command kept may))

  step_well : (t new : Tables) (command : Command) (answer : Option Answer) → Kept t → IsCommand command → Asked next t command answer new → Kept new × Later t new
  step_well t new command answer kept may asked =
      let well = run_well next below (command ∷ []) (answer ∷ []) t new kept (new, may, asked, refl) in
      (well.kept, well.later)

  runs_above : (to : ℕ) (serial : List ℕ) (commands : List Command) (answers : List (Option Answer)) (old new : Tables) → Kept old → IsPast to serial old → Runs next old commands answers new → OnlyAbove to serial old new
  runs_above to serial [] [] old new kept past runs = subst (λ (u : Tables). OnlyAbove to serial old u) (sym runs) (above_still to serial old)
  runs_above to serial [] (answer ∷ answers) old new kept past runs = absurd runs
  runs_above to serial (command ∷ commands) [] old new kept past runs = absurd runs
  runs_above to serial (command ∷ commands) (answer ∷ answers) old new kept past runs =
      let well = step_well old runs.0 command answer kept runs.1 runs.2 in
      above_then to serial old runs.0 new
      (step_above to serial old runs.0 command answer kept past runs.1 runs.2)
      (runs_above to serial commands answers runs.0 new well.0 (past_later to serial old runs.0 past well.1) runs.3)

-- a skip that was answered by a row leaves the device past its count
lifted_past : (t : Tables) (to : ℕ) (kept : Row) (within : Bool) (row : Row) → row_of t kept.serial ≡ Some kept → (lifted_at t to kept within).answer ≡ answer_is.Row row → IsPast to kept.serial (lifted_at t to kept within).tables
lifted_past t to kept true row is answered =
    subst (λ (o : Option Row). IsPast to kept.serial (lifted_by to o t)) (sym is)
    record { row = lifted_row to kept; is = row_same (lifted_row to kept) t.rows kept is; past = omega arith }
lifted_past t to kept false row is answered = cc

skipped_at_past : (t : Tables) (to : ℕ) (kept : Row) (above : Bool) (row : Row) → nat_lt kept.last to ≡ above → row_of t kept.serial ≡ Some kept → (skipped_at t to kept above).answer ≡ answer_is.Row row → IsPast to kept.serial (skipped_at t to kept above).tables
skipped_at_past t to kept true row above is answered = lifted_past t to kept (nat_le to kept.limit) row is answered
skipped_at_past t to kept false row above is answered = record { row = kept; is = is; past = ltb-false kept.last to above }

skipped_past : (t : Tables) (to : ℕ) (serial : List ℕ) (found : Option Row) (row : Row) → row_of t serial ≡ found → (skipped t to found).answer ≡ answer_is.Row row → IsPast to serial (skipped t to found).tables
skipped_past t to serial None row found_is answered = cc
skipped_past t to serial (Some kept) row found_is answered =
    subst (λ (s : List ℕ). IsPast to s (skipped t to (Some kept)).tables) (found_serial t.rows serial kept found_is)
    (skipped_at_past t to kept (nat_lt kept.last to) row refl (row_found_again t.rows serial kept found_is) answered)

-- no count up to that of a skip is issued again
pub never_issued : (next : List ℕ → ℕ → ℕ) → StaysBelow next → (old later : Tables) (serial : List ℕ) (to : ℕ) (row : Row) (commands : List Command) (answers : List (Option Answer)) → Kept old → IsCommand (command_is.Skip serial to)
    → (done next old (command_is.Skip serial to)).answer ≡ answer_is.Row row → Runs next (done next old (command_is.Skip serial to)).tables commands answers later → OnlyAbove to serial old later
never_issued next below old later serial to row commands answers kept may answered runs =
    let mid : Tables = (done next old (command_is.Skip serial to)).tables in
    let same : mid.orders ≡ old.orders = skipped_adds next old to (row_of old serial) in
    above_then to serial old mid later
    (λ id order is own. inl (sym (ap (λ (l : List Order). order_in l id) same) ∙ is))
    (runs_above next below to serial commands answers mid later (done_well next below old (command_is.Skip serial to) kept may).kept (skipped_past old to serial (row_of old serial) row refl answered) runs)

-- The skip's row, as it was answered, is that of the device then.
skip_row : (t : Tables) (to : ℕ) (kept row : Row) (within : Bool) → row_of t kept.serial ≡ Some kept → (lifted_at t to kept within).answer ≡ answer_is.Row row → (row.key ≡ kept.key) × (row.start ≡ kept.start)
skip_row t to kept row true is answered = let one : lifted_row to kept ≡ row = cc in (ap (λ (r : Row). r.key) (sym one), ap (λ (r : Row). r.start) (sym one))
skip_row t to kept row false is answered = cc

skip_row_at : (t : Tables) (to : ℕ) (kept row : Row) (above : Bool) → row_of t kept.serial ≡ Some kept → (skipped_at t to kept above).answer ≡ answer_is.Row row → (row.key ≡ kept.key) × (row.start ≡ kept.start)
skip_row_at t to kept row true is answered = skip_row t to kept row (nat_le to kept.limit) is answered
skip_row_at t to kept row false is answered = let one : kept ≡ row = cc in (ap (λ (r : Row). r.key) (sym one), ap (λ (r : Row). r.start) (sym one))

-- The row of a device that a skip was answered by has the key and the starting code of the row that there was.
pub record WasRow (t : Tables) (serial : List ℕ) (row : Row) : Type 0 where
  pub kept : Row
  pub is : row_of t serial ≡ Some kept
  pub key : row.key ≡ kept.key
  pub start : row.start ≡ kept.start

skipped_row : (t : Tables) (to : ℕ) (serial : List ℕ) (found : Option Row) (row : Row) → row_of t serial ≡ found → (skipped t to found).answer ≡ answer_is.Row row → WasRow t serial row
skipped_row t to serial None row found_is answered = cc
skipped_row t to serial (Some kept) row found_is answered =
    let same = skip_row_at t to kept row (nat_lt kept.last to) (row_found_again t.rows serial kept found_is) answered in
    record { kept = kept; is = found_is; key = same.0; start = same.1 }

-- a clean count's token is that of no lesser count, whatever its value
not_lesser : (next : ℕ → ℕ) (start value v count m : ℕ) → v ≤ 999 → value ≤ 999 → m < count → IsClean next start count value → token_at next start v m ≡ token_at next start value count → ⊥
not_lesser next start value v count m low high lesser clean same =
    let values : v ≡ value = same_value next start v value m count low high same in
    let own : m ≡ count = clean m (omega arith) (ap (λ w. token_at next start w m) (sym values) ∙ same) in
    absurd (omega arith)

-- and so no token that was sold up to there is sold again
pub never_sold : (next : List ℕ → ℕ → ℕ) → StaysBelow next → (old later : Tables) (serial : List ℕ) (to : ℕ) (row : Row) (commands : List Command) (answers : List (Option Answer)) → Sound next old → IsCommand (command_is.Skip serial to)
    → (done next old (command_is.Skip serial to)).answer ≡ answer_is.Row row → Runs next (done next old (command_is.Skip serial to)).tables commands answers later
    → (id : List ℕ) (order : Order) → order_of later id ≡ Some order → order.serial ≡ serial → (order_of old id ≡ Some order → ⊥)
    → (count value : ℕ) → count ≤ to → value ≤ 999 → token_at (next row.key) row.start value count ≡ order.token → ⊥
never_sold next below old later serial to row commands answers sound may answered runs id order is own new count value within low same =
    let mid : Tables = (done next old (command_is.Skip serial to)).tables in
    let mid_sound : Sound next mid = command_sound next below old (command_is.Skip serial to) may sound in
    let end_sound : Sound next later = runs_sound next below mid later commands answers mid_sound runs in
    let was : WasRow old serial row = skipped_row old to serial (row_of old serial) row refl answered in
    let first = (done_well next below old (command_is.Skip serial to) sound.kept may).later.rows serial was.kept was.is in
    let last = (run_well next below commands answers mid later mid_sound.kept runs).later.rows serial first.0 first.1 in
    let row_is : row_of later order.serial ≡ Some last.0 = ap (λ s. row_of later s) own ∙ last.1 in
    let issued = end_sound.issued id order last.0 is row_is in
    let key : last.0.key ≡ row.key = last.2.key ∙ first.2.key ∙ sym was.key in
    let start : last.0.start ≡ row.start = last.2.start ∙ first.2.start ∙ sym was.start in
    let in_range = (order_kept later.rows later.orders id order end_sound.kept.orders is).0 in
    let token : token_at (next last.0.key) last.0.start value count ≡ token_at (next last.0.key) last.0.start order.value order.count =
    ap (λ k. token_at (next k) last.0.start value count) key ∙ ap (λ s. token_at (next row.key) s value count) start ∙ same ∙ issued.token in
    elim (never_issued next below old later serial to row commands answers sound.kept may answered runs id order is own) [
      | inl before ↦ absurd (new before)
      | inr high ↦ not_lesser (next last.0.key) last.0.start order.value value order.count count low in_range.value (omega (arith, high, within)) issued.clean token
    ]
