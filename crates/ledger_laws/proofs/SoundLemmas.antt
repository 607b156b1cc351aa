-- The ledger keeps its tables sound.
use Rattle.std.proofs.Common.{◌≡◌, ℕ, ◌+◌, ◌<◌, ◌≤◌, List, [], ◌∷◌, filter, max, Bool, true, false, nat_lt, ◌==◌, inl, inr, Option, Some, None, Result, Ok, Err, cond, refl, sym, ap, subst, ◌∙◌, arith}
use Rattle.paygo_spec.specs.declared.TheConstants.{LAST}
use Rattle.paygo_spec.specs.Chain.{token_at}
use Rattle.ledger_spec.specs.declared.Row.{Row}
use Rattle.ledger_spec.specs.declared.Order.{Order}
use Rattle.ledger_spec.specs.declared.Ask.{Ask}
use Rattle.ledger_spec.specs.declared.Ask.TheVariants as asks
use Rattle.ledger_spec.specs.declared.Answer.{Answer}
use Rattle.ledger_spec.specs.declared.Issue.{Issue}
use Rattle.ledger_spec.specs.declared.PriceChange.{PriceChange}
use Rattle.ledger_spec.specs.declared.Enrol.{Enrol}
use Rattle.ledger_spec.specs.declared.Command.{Command}
use Rattle.ledger_spec.specs.declared.Command.TheVariants as command_is
use Rattle.ledger_spec.specs.Names.{same_name}
use Rattle.ledger_spec.specs.Tables.{Tables, row_of, order_of, row_in, order_in, rows_with, with_row, with_order, prices_in, prices_for, is_change_of, change_before, change_of, price_at, with_change, raised_row, raised_by, lifted_row, lifted_by, RowIsInRange, AskIsInRange, AreOrders, AreChanges, Kept}
use Rattle.ledger_spec.specs.Putting.{sorted_by}
use Rattle.ledger_spec.specs.Sorted.{is_for}
use Rattle.ledger_spec.specs.Replay.{IsReplayed, orders_back}
use Rattle.ledger_spec.specs.Issuing.{pick}
use Rattle.ledger_spec.specs.Ledger.{done, enrolled, new_row, asked, asked_of, issued, issued_at, offered, order_at, row_at, raises, raised_at, repriced, changed_of, changed_at, change_to, skipped, skipped_at, lifted_at, IsCommand}
use Rattle.ledger_spec.proofs.Alone.{alone_says}
use Rattle.ledger_spec.proofs.NameLemmas.{is_same, same_or_not}
use Rattle.ledger_spec.proofs.Lookups.{row_found_again, row_other, row_same}
use Rattle.ledger_spec.proofs.KeptLemmas.{row_kept, order_kept, some_is}
use Rattle.ledger_spec.proofs.IssueLemmas.{IssueFits, issue_fits, picked}
use Rattle.ledger_spec.proofs.PriceLemmas.{price_in_range, prices_other}
use Rattle.std.specs.Prelude.{nat_le}
use Rattle.std.proofs.lemmas.Bool.{eqb-true, ltb-true}
use Rattle.ledger_spec.specs.Sound.{StaysBelow, IsIssued, Sound}
use Rattle.ledger_laws.specs.Later.{GoesOn}
use Rattle.ledger_laws.proofs.LaterLemmas.{done_well, issue_goes, raised_goes, lifted_goes}
use Rattle.ledger_laws.proofs.ReplayLemmas.{replay_raised, replay_lifted, replay_priced, replay_issue}

-- an order that was issued for a row was issued for the row that it goes on as
still_issued : (next : List ℕ → ℕ → ℕ) (old new : Row) (order : Order) → GoesOn old new → IsIssued next old order → IsIssued next new order
still_issued next old new order goes is =
    let low : order.count ≤ old.last = is.count in
    let high : old.last ≤ new.last = goes.last in
    record {
      count = omega arith;
      parity = is.parity;
      token = rw (goes.key, goes.start) is.token;
      clean = rw (goes.key, goes.start) is.clean;
      units = is.units;
    }

-- a device without a row has no order, and no change of a price
no_orders : (rows : List Row) (orders : List Order) → AreOrders rows orders → (serial : List ℕ) → row_in rows serial ≡ None → filter (is_for serial) orders ≡ []
no_orders rows [] are serial none = refl
no_orders rows (order ∷ orders) are serial none = elim (same_or_not order.serial serial) [
  | inl same ↦
      let some = some_is (row_in rows order.serial) are.2 in
      let bad : None ≡ Some some.0 = sym none ∙ ap (λ s. row_in rows s) (sym same) ∙ some.1 in
      cc
  | inr other ↦ ap (λ b. cond b (order ∷ filter (is_for serial) orders) (filter (is_for serial) orders)) other ∙ no_orders rows orders are.3 serial none
]

no_changes : (rows : List Row) (changes : List PriceChange) → AreChanges rows changes → (serial : List ℕ) → row_in rows serial ≡ None → filter (is_change_of serial) changes ≡ []
no_changes rows [] are serial none = refl
no_changes rows (change ∷ changes) are serial none = elim (same_or_not change.serial serial) [
  | inl same ↦
      let some = some_is (row_in rows change.serial) are.2 in
      let bad : None ≡ Some some.0 = sym none ∙ ap (λ s. row_in rows s) (sym same) ∙ some.1 in
      cc
  | inr other ↦ ap (λ b. cond b (change ∷ filter (is_change_of serial) changes) (filter (is_change_of serial) changes)) other ∙ no_changes rows changes are.3 serial none
]

one_of : {X : Type 0} (a b : X) → Some a ≡ Some b → a ≡ b
one_of a b is = cc

module _ (next : List ℕ → ℕ → ℕ) (t : Tables) (sound : Sound next t) where
  -- the row of a kept order
  own_row : (id : List ℕ) (order : Order) → order_of t id ≡ Some order → (row : Row) × (row_of t order.serial ≡ Some row)
  own_row id order is = some_is (row_of t order.serial) (order_kept t.rows t.orders id order sound.kept.orders is).1

  module _ (new : Row) (none : row_of t new.serial ≡ None) where
    -- a row that is found behind a new one, and isn't the new one
    row_before : (serial : List ℕ) (row : Row) → same_name new.serial serial ≡ false → row_in (new ∷ t.rows) serial ≡ Some row → row_of t serial ≡ Some row
    row_before serial row other is = sym (ap (λ b. cond b (Some new) (row_in t.rows serial)) other) ∙ is

    row_is_new : (serial : List ℕ) (row : Row) → new.serial ≡ serial → row_in (new ∷ t.rows) serial ≡ Some row → new ≡ row
    row_is_new serial row same is = one_of new row (sym (ap (λ b. cond b (Some new) (row_in t.rows serial)) (is_same new.serial serial same)) ∙ is)

    issued_before : (id : List ℕ) (order : Order) (row : Row) → order_of t id ≡ Some order → row_in (new ∷ t.rows) order.serial ≡ Some row → IsIssued next row order
    issued_before id order row is row_is = elim (same_or_not new.serial order.serial) [
      | inl same ↦
          let own = own_row id order is in
          let bad : None ≡ Some own.0 = sym none ∙ ap (λ s. row_of t s) same ∙ own.1 in
          cc
      | inr other ↦ sound.issued id order row is (row_before order.serial row other row_is)
    ]

    replayed_before : IsReplayed [] [] new → (serial : List ℕ) (row : Row) → row_in (new ∷ t.rows) serial ≡ Some row → IsReplayed (orders_back t serial) (prices_for t serial) row
    replayed_before fresh serial row is = elim (same_or_not new.serial serial) [
      | inl same ↦
          let it : new ≡ row = row_is_new serial row same is in
          let gone : row_in t.rows serial ≡ None = ap (λ s. row_in t.rows s) (sym same) ∙ none in
          let orders : orders_back t serial ≡ [] = no_orders t.rows t.orders sound.kept.orders serial gone in
          let changes : prices_for t serial ≡ [] = ap (λ (l : List PriceChange). sorted_by change_before l) (no_changes t.rows t.changes sound.kept.changes serial gone) in
          subst (λ (x : Row). IsReplayed (orders_back t serial) (prices_for t serial) x) it
          (subst (λ (os : List Order). IsReplayed os (prices_for t serial) new) (sym orders) (subst (λ (cs : List PriceChange). IsReplayed [] cs new) (sym changes) fresh))
      | inr other ↦ sound.replayed serial row (row_before serial row other is)
    ]

    pub sound_with_row : IsReplayed [] [] new → Kept (with_row new t) → Sound next (with_row new t)
    sound_with_row fresh kept = record { kept = kept; issued = issued_before; counts = sound.counts; replayed = replayed_before fresh }

  module _ (order : Order) (kept row : Row) (same : order.serial ≡ kept.serial) (none : order_of t order.id ≡ None) (was : row_of t kept.serial ≡ Some row) (goes : GoesOn row kept)
      (above : row.last < order.count) (is_issued : IsIssued next kept order) where
    now : row_in (rows_with kept t.rows) kept.serial ≡ Some kept
    now = row_same kept t.rows row was

    order_before : (id : List ℕ) (o : Order) → same_name order.id id ≡ false → order_in (order ∷ t.orders) id ≡ Some o → order_of t id ≡ Some o
    order_before id o other is = sym (ap (λ b. cond b (Some order) (order_in t.orders id)) other) ∙ is

    order_is_new : (id : List ℕ) (o : Order) → order.id ≡ id → order_in (order ∷ t.orders) id ≡ Some o → order ≡ o
    order_is_new id o own is = one_of order o (sym (ap (λ b. cond b (Some order) (order_in t.orders id)) (is_same order.id id own)) ∙ is)

    -- the row of this device is the one that is kept now
    row_is_kept : (serial : List ℕ) (r : Row) → kept.serial ≡ serial → row_in (rows_with kept t.rows) serial ≡ Some r → kept ≡ r
    row_is_kept serial r own is = one_of kept r (sym now ∙ ap (λ s. row_in (rows_with kept t.rows) s) own ∙ is)

    issued_now : (id : List ℕ) (o : Order) (r : Row) → order_in (order ∷ t.orders) id ≡ Some o → row_in (rows_with kept t.rows) o.serial ≡ Some r → IsIssued next r o
    issued_now id o r is row_is = elim (same_or_not order.id id) [
      | inl own ↦
          let it : order ≡ o = order_is_new id o own is in
          let serial : kept.serial ≡ o.serial = sym same ∙ ap (λ (x : Order). x.serial) it in
          let its : kept ≡ r = row_is_kept o.serial r serial row_is in
          subst (λ (x : Order). IsIssued next r x) it (subst (λ (x : Row). IsIssued next x order) its is_issued)
      | inr other ↦ elim (same_or_not kept.serial o.serial) [
        | inl serial ↦
            let its : kept ≡ r = row_is_kept o.serial r serial row_is in
            let old : IsIssued next row o = sound.issued id o row (order_before id o other is) (ap (λ s. row_of t s) (sym serial) ∙ was) in
            subst (λ (x : Row). IsIssued next x o) its (still_issued next row kept o goes old)
        | inr serial ↦ sound.issued id o r (order_before id o other is) (sym (row_other kept t.rows o.serial serial) ∙ row_is)
      ]
    ]

    -- no older order of this device has the count of the new one
    no_older : (id : List ℕ) (o : Order) → order_of t id ≡ Some o → order.serial ≡ o.serial → order.count ≡ o.count → ⊥
    no_older id o is serial count =
        let old : IsIssued next row o = sound.issued id o row is (ap (λ s. row_of t s) (sym serial ∙ same) ∙ was) in
        let low : o.count ≤ row.last = old.count in
        absurd (omega arith)

    counts_now : (id other : List ℕ) (o second : Order) → order_in (order ∷ t.orders) id ≡ Some o → order_in (order ∷ t.orders) other ≡ Some second → o.serial ≡ second.serial → o.count ≡ second.count → o ≡ second
    counts_now id other o second is too serial count = elim (same_or_not order.id id) [
      | inl own ↦
          let it : order ≡ o = order_is_new id o own is in
          elim (same_or_not order.id other) [
            | inl own2 ↦ sym it ∙ order_is_new other second own2 too
            | inr not2 ↦ absurd (no_older other second (order_before other second not2 too) (ap (λ (x : Order). x.serial) it ∙ serial) (ap (λ (x : Order). x.count) it ∙ count))
          ]
      | inr not ↦ elim (same_or_not order.id other) [
        | inl own2 ↦
            let it : order ≡ second = order_is_new other second own2 too in
            absurd (no_older id o (order_before id o not is) (ap (λ (x : Order). x.serial) it ∙ sym serial) (ap (λ (x : Order). x.count) it ∙ sym count))
        | inr not2 ↦ sound.counts id other o second (order_before id o not is) (order_before other second not2 too) serial count
      ]
    ]

    replayed_now : IsReplayed (order ∷ orders_back t kept.serial) (prices_for t kept.serial) kept → (serial : List ℕ) (r : Row) → row_in (rows_with kept t.rows) serial ≡ Some r
        → IsReplayed (filter (is_for serial) (order ∷ t.orders)) (prices_for t serial) r
    replayed_now more serial r is = elim (same_or_not kept.serial serial) [
      | inl own ↦
          let its : kept ≡ r = row_is_kept serial r own is in
          let orders : filter (is_for serial) (order ∷ t.orders) ≡ order ∷ orders_back t serial = ap (λ b. cond b (order ∷ orders_back t serial) (orders_back t serial)) (is_same order.serial serial (same ∙ own)) in
          let here : IsReplayed (order ∷ orders_back t serial) (prices_for t serial) kept = subst (λ (s : List ℕ). IsReplayed (order ∷ orders_back t s) (prices_for t s) kept) own more in
          subst (λ (x : Row). IsReplayed (filter (is_for serial) (order ∷ t.orders)) (prices_for t serial) x) its (subst (λ (os : List Order). IsReplayed os (prices_for t serial) kept) (sym orders) here)
      | inr other ↦
          let old : IsReplayed (orders_back t serial) (prices_for t serial) r = sound.replayed serial r (sym (row_other kept t.rows serial other) ∙ is) in
          let orders : filter (is_for serial) (order ∷ t.orders) ≡ orders_back t serial = ap (λ b. cond b (order ∷ orders_back t serial) (orders_back t serial)) (ap (λ s. same_name s serial) same ∙ other) in
          subst (λ (os : List Order). IsReplayed os (prices_for t serial) r) (sym orders) old
    ]

    pub sound_with_order : IsReplayed (order ∷ orders_back t kept.serial) (prices_for t kept.serial) kept → Kept (with_order order kept t) → Sound next (with_order order kept t)
    sound_with_order more in_order = record { kept = in_order; issued = issued_now; counts = counts_now; replayed = replayed_now more }

  -- the limit of a row is raised
  module _ (row : Row) (was : row_of t row.serial ≡ Some row) (in_range : RowIsInRange row) where
    raised_now : row_in (rows_with (raised_row row) t.rows) row.serial ≡ Some (raised_row row)
    raised_now = row_same (raised_row row) t.rows row was

    row_is_raised : (serial : List ℕ) (r : Row) → row.serial ≡ serial → row_in (rows_with (raised_row row) t.rows) serial ≡ Some r → raised_row row ≡ r
    row_is_raised serial r own is = one_of (raised_row row) r (sym raised_now ∙ ap (λ s. row_in (rows_with (raised_row row) t.rows) s) own ∙ is)

    issued_raised : (id : List ℕ) (o : Order) (r : Row) → order_of t id ≡ Some o → row_in (rows_with (raised_row row) t.rows) o.serial ≡ Some r → IsIssued next r o
    issued_raised id o r is row_is = elim (same_or_not row.serial o.serial) [
      | inl own ↦
          let its : raised_row row ≡ r = row_is_raised o.serial r own row_is in
          let old : IsIssued next row o = sound.issued id o row is (ap (λ s. row_of t s) (sym own) ∙ was) in
          subst (λ (x : Row). IsIssued next x o) its (still_issued next row (raised_row row) o (raised_goes row in_range) old)
      | inr other ↦ sound.issued id o r is (sym (row_other (raised_row row) t.rows o.serial other) ∙ row_is)
    ]

    replayed_raised : (serial : List ℕ) (r : Row) → row_in (rows_with (raised_row row) t.rows) serial ≡ Some r → IsReplayed (orders_back t serial) (prices_for t serial) r
    replayed_raised serial r is = elim (same_or_not row.serial serial) [
      | inl own ↦
          let its : raised_row row ≡ r = row_is_raised serial r own is in
          subst (λ (x : Row). IsReplayed (orders_back t serial) (prices_for t serial) x) its (replay_raised (orders_back t serial) (prices_for t serial) row (sound.replayed serial row (ap (λ s. row_of t s) (sym own) ∙ was)))
      | inr other ↦ sound.replayed serial r (sym (row_other (raised_row row) t.rows serial other) ∙ is)
    ]

    pub sound_raised : Kept (raised_by (Some row) t) → Sound next (raised_by (Some row) t)
    sound_raised in_order = record { kept = in_order; issued = issued_raised; counts = sound.counts; replayed = replayed_raised }

  -- the last count of a row is lifted
  module _ (to : ℕ) (row : Row) (above : row.last < to) (was : row_of t row.serial ≡ Some row) where
    lifted_now : row_in (rows_with (lifted_row to row) t.rows) row.serial ≡ Some (lifted_row to row)
    lifted_now = row_same (lifted_row to row) t.rows row was

    row_is_lifted : (serial : List ℕ) (r : Row) → row.serial ≡ serial → row_in (rows_with (lifted_row to row) t.rows) serial ≡ Some r → lifted_row to row ≡ r
    row_is_lifted serial r own is = one_of (lifted_row to row) r (sym lifted_now ∙ ap (λ s. row_in (rows_with (lifted_row to row) t.rows) s) own ∙ is)

    issued_lifted : (id : List ℕ) (o : Order) (r : Row) → order_of t id ≡ Some o → row_in (rows_with (lifted_row to row) t.rows) o.serial ≡ Some r → IsIssued next r o
    issued_lifted id o r is row_is = elim (same_or_not row.serial o.serial) [
      | inl own ↦
          let its : lifted_row to row ≡ r = row_is_lifted o.serial r own row_is in
          let old : IsIssued next row o = sound.issued id o row is (ap (λ s. row_of t s) (sym own) ∙ was) in
          subst (λ (x : Row). IsIssued next x o) its (still_issued next row (lifted_row to row) o (lifted_goes to row above) old)
      | inr other ↦ sound.issued id o r is (sym (row_other (lifted_row to row) t.rows o.serial other) ∙ row_is)
    ]

    replayed_lifted : (serial : List ℕ) (r : Row) → row_in (rows_with (lifted_row to row) t.rows) serial ≡ Some r → IsReplayed (orders_back t serial) (prices_for t serial) r
    replayed_lifted serial r is = elim (same_or_not row.serial serial) [
      | inl own ↦
          let its : lifted_row to row ≡ r = row_is_lifted serial r own is in
          subst (λ (x : Row). IsReplayed (orders_back t serial) (prices_for t serial) x) its (replay_lifted to (orders_back t serial) (prices_for t serial) row above (sound.replayed serial row (ap (λ s. row_of t s) (sym own) ∙ was)))
      | inr other ↦ sound.replayed serial r (sym (row_other (lifted_row to row) t.rows serial other) ∙ is)
    ]

    pub sound_lifted : Kept (lifted_by to (Some row) t) → Sound next (lifted_by to (Some row) t)
    sound_lifted in_order = record { kept = in_order; issued = issued_lifted; counts = sound.counts; replayed = replayed_lifted }

  -- a change of a price is added
  module _ (change : PriceChange) (row : Row) (was : row_of t change.serial ≡ Some row) (newest : change.from ≡ row.last) where
    replayed_changed : (serial : List ℕ) (r : Row) → row_of t serial ≡ Some r → IsReplayed (orders_back t serial) (prices_in (change ∷ t.changes) serial) r
    replayed_changed serial r is = elim (same_or_not change.serial serial) [
      | inl own ↦
          let its : row ≡ r = one_of row r (sym was ∙ ap (λ s. row_of t s) own ∙ is) in
          let from : change.from ≡ r.last = newest ∙ ap (λ (x : Row). x.last) its in
          replay_priced (orders_back t serial) change t.changes serial r from (sound.replayed serial r is)
      | inr other ↦ subst (λ (cs : List PriceChange). IsReplayed (orders_back t serial) cs r) (sym (prices_other change t.changes serial other)) (sound.replayed serial r is)
    ]

    pub sound_with_change : Kept (with_change change t) → Sound next (with_change change t)
    sound_with_change in_order = record { kept = in_order; issued = sound.issued; counts = sound.counts; replayed = replayed_changed }

-- a command leaves the tables sound
module _ (next : List ℕ → ℕ → ℕ) (below : StaysBelow next) where
  issued_at_sound : (t : Tables) (id : List ℕ) (ask : Ask) (row : Row) (issue : Issue) (found : Option ℕ) → Sound next t → Kept (issued_at next t id ask issue found).tables → IssueFits (price_at t row (row.last + 1)) row ask issue → row_of t row.serial ≡ Some row → order_of t id ≡ None
      → pick (next issue.row.key) issue.row.start issue.row.limit issue.row.last issue.kind issue.value ≡ found → Sound next (issued_at next t id ask issue found).tables
  issued_at_sound t id ask row issue None sound kept fits is none pick_is = sound
  issued_at_sound t id ask row issue (Some count) sound kept fits is none pick_is =
      let got = picked (next issue.row.key) issue.row.start issue.row.limit issue.row.last issue.kind issue.value count pick_is in
      let high : issue.row.last < count = got.above in
      let last : issue.row.last ≡ row.last = fits.last in
      let above : row.last < count = omega arith in
      sound_with_order next t sound (order_at next id ask issue count) (row_at issue count) row refl none (ap (λ s. row_of t s) fits.serial ∙ is) (issue_goes (price_at t row (row.last + 1)) row ask issue count fits above) above
      record {
        count = omega arith;
        parity = got.parity;
        token = refl;
        clean = λ m within same. alone_says (token_at (next issue.row.key) issue.row.start issue.value) count (max LAST count + 1) got.clean m (omega arith) same;
        units = fits.units;
      }
      (replay_issue t next id ask row issue count fits above (subst (λ (s : List ℕ). IsReplayed (orders_back t s) (prices_for t s) row) (sym fits.serial) (sound.replayed row.serial row is))) kept

  issued_sound : (t : Tables) (id : List ℕ) (ask : Ask) (row : Row) (what : Result Issue Answer) → offered t row ask ≡ what → Sound next t → Kept (issued next t id ask what).tables → RowIsInRange row → AskIsInRange ask → row_of t row.serial ≡ Some row → order_of t id ≡ None
      → Sound next (issued next t id ask what).tables
  issued_sound t id ask row (Err refusal) what_is sound kept in_range asked is none = sound
  issued_sound t id ask row (Ok issue) what_is sound kept in_range asked is none =
      issued_at_sound t id ask row issue (pick (next issue.row.key) issue.row.start issue.row.limit issue.row.last issue.kind issue.value) sound kept (issue_fits (price_at t row (row.last + 1)) (price_in_range t row (row.last + 1) sound.kept in_range) row in_range ask issue asked what_is) is none refl

  asked_of_sound : (t : Tables) (id serial : List ℕ) (ask : Ask) (row : Row) (found : Option Order) → order_of t id ≡ found → Sound next t → Kept (asked_of next t id serial ask row found).tables → RowIsInRange row → AskIsInRange ask → row_of t row.serial ≡ Some row
      → Sound next (asked_of next t id serial ask row found).tables
  asked_of_sound t id serial ask row (Some order) found_is sound kept in_range asked is = sound
  asked_of_sound t id serial ask row None found_is sound kept in_range asked is = issued_sound t id ask row (offered t row ask) refl sound kept in_range asked is found_is

  asked_sound : (t : Tables) (id serial : List ℕ) (ask : Ask) (found : Option Row) → row_of t serial ≡ found → Sound next t → Kept (asked next t id serial ask found).tables → AskIsInRange ask → Sound next (asked next t id serial ask found).tables
  asked_sound t id serial ask None found_is sound kept asked = sound
  asked_sound t id serial ask (Some row) found_is sound kept asked =
      asked_of_sound t id serial ask row (order_of t id) refl sound kept (row_kept t.rows serial row sound.kept.rows found_is) asked (row_found_again t.rows serial row found_is)

  enrolled_sound : (t : Tables) (enrol : Enrol) (found : Option Row) → row_of t enrol.serial ≡ found → Sound next t → Kept (enrolled t enrol found).tables → Sound next (enrolled t enrol found).tables
  enrolled_sound t enrol None found_is sound kept = sound_with_row next t sound (new_row enrol) found_is record { falls = tt; froms = tt; booked = tt; account = refl } kept
  enrolled_sound t enrol (Some row) found_is sound kept = sound

  raised_at_sound : (t : Tables) (row : Row) (low : Bool) → Sound next t → Kept (raised_at t row low).tables → RowIsInRange row → row_of t row.serial ≡ Some row → Sound next (raised_at t row low).tables
  raised_at_sound t row true sound kept in_range is =
      subst (λ (o : Option Row). Sound next (raised_by o t)) (sym is) (sound_raised next t sound row is in_range (subst (λ (o : Option Row). Kept (raised_by o t)) is kept))
  raised_at_sound t row false sound kept in_range is = sound

  raises_sound : (t : Tables) (serial : List ℕ) (found : Option Row) → row_of t serial ≡ found → Sound next t → Kept (raises t found).tables → Sound next (raises t found).tables
  raises_sound t serial None found_is sound kept = sound
  raises_sound t serial (Some row) found_is sound kept = raised_at_sound t row (row.limit == LAST) sound kept (row_kept t.rows serial row sound.kept.rows found_is) (row_found_again t.rows serial row found_is)

  lifted_at_sound : (t : Tables) (to : ℕ) (row : Row) (within : Bool) → row.last < to → Sound next t → Kept (lifted_at t to row within).tables → row_of t row.serial ≡ Some row → Sound next (lifted_at t to row within).tables
  lifted_at_sound t to row true above sound kept is =
      subst (λ (o : Option Row). Sound next (lifted_by to o t)) (sym is) (sound_lifted next t sound to row above is (subst (λ (o : Option Row). Kept (lifted_by to o t)) is kept))
  lifted_at_sound t to row false above sound kept is = sound

  skipped_at_sound : (t : Tables) (to : ℕ) (row : Row) (above : Bool) → nat_lt row.last to ≡ above → Sound next t → Kept (skipped_at t to row above).tables → row_of t row.serial ≡ Some row → Sound next (skipped_at t to row above).tables
  skipped_at_sound t to row true above sound kept is = lifted_at_sound t to row (nat_le to row.limit) (ltb-true row.last to above) sound kept is
  skipped_at_sound t to row false above sound kept is = sound

  skipped_sound : (t : Tables) (to : ℕ) (serial : List ℕ) (found : Option Row) → row_of t serial ≡ found → Sound next t → Kept (skipped t to found).tables → Sound next (skipped t to found).tables
  skipped_sound t to serial None found_is sound kept = sound
  skipped_sound t to serial (Some row) found_is sound kept = skipped_at_sound t to row (nat_lt row.last to) refl sound kept (row_found_again t.rows serial row found_is)

  changed_at_sound : (t : Tables) (change : PriceChange) (row : Row) (newest : Bool) → (change.from == row.last) ≡ newest → Sound next t → Kept (changed_at t change row newest).tables → row_of t change.serial ≡ Some row → Sound next (changed_at t change row newest).tables
  changed_at_sound t change row true newest_is sound kept is = sound_with_change next t sound change row is (eqb-true change.from row.last newest_is) kept
  changed_at_sound t change row false newest_is sound kept is = sound

  changed_of_sound : (t : Tables) (change : PriceChange) (row : Row) (found : Option PriceChange) → Sound next t → Kept (changed_of t change row found).tables → row_of t change.serial ≡ Some row → Sound next (changed_of t change row found).tables
  changed_of_sound t change row (Some old) sound kept is = sound
  changed_of_sound t change row None sound kept is = changed_at_sound t change row (change.from == row.last) refl sound kept is

  repriced_sound : (t : Tables) (change : PriceChange) (found : Option Row) → row_of t change.serial ≡ found → Sound next t → Kept (repriced t change found).tables → Sound next (repriced t change found).tables
  repriced_sound t change None found_is sound kept = sound
  repriced_sound t change (Some row) found_is sound kept = changed_of_sound t change row (change_of t change.serial change.from) sound kept found_is

  by_command : (t : Tables) (command : Command) → Sound next t → IsCommand command → Kept (done next t command).tables → Sound next (done next t command).tables
  by_command t (command_is.Enroll enrol) sound may kept = enrolled_sound t enrol (row_of t enrol.serial) refl sound kept
  by_command t (command_is.Pay id serial amount) sound may kept = asked_sound t id serial (asks.Pay amount) (row_of t serial) refl sound kept may
  by_command t (command_is.Set id serial units) sound may kept = asked_sound t id serial (asks.Set units) (row_of t serial) refl sound kept may
  by_command t (command_is.Disable id serial) sound may kept = asked_sound t id serial asks.Disable (row_of t serial) refl sound kept tt
  by_command t (command_is.Sync id serial) sound may kept = asked_sound t id serial asks.Sync (row_of t serial) refl sound kept tt
  by_command t (command_is.Order id) sound may kept = sound
  by_command t (command_is.Show serial) sound may kept = sound
  by_command t (command_is.Raise serial) sound may kept = raises_sound t serial (row_of t serial) refl sound kept
  by_command t (command_is.Price serial from price) sound may kept = repriced_sound t (change_to serial from price) (row_of t serial) refl sound kept
  by_command t (command_is.Quote serial amount) sound may kept = sound
  by_command t (command_is.Skip serial to) sound may kept = skipped_sound t to serial (row_of t serial) refl sound kept

  pub sound_done : (t : Tables) (command : Command) → Sound next t → IsCommand command → Sound next (done next t command).tables
  sound_done t command sound may = by_command t command sound may (done_well next below t command sound.kept may).kept
