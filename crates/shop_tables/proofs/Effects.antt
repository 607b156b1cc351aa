-- What each statement makes of the tables that stand in the database.
use Rattle.std.proofs.Common.{◌≡◌, ◌≢◌, ℕ, List, [], ◌∷◌, Bool, true, false, cond, not, ◌==◌, Some, None, Ok, Option, IsSome, refl, sym, ap, subst, ◌∙◌, arith}
use Rattle.std.proofs.lemmas.Bool.Decides.{nat_tests}
use Rattle.paygo_spec.specs.declared.TheConstants.{GREAT, LAST}
use Rattle.sqlite.specs.declared.types.Value.TheVariants.{Int}
use Rattle.sqlite.specs.Edit.{next_rowid}
use Rattle.sqlite.specs.Effect.{Database}
use Rattle.sqlite.specs.State.{State, Executes}
use Rattle.ledger_spec.specs.declared.Row.{Row}
use Rattle.ledger_spec.specs.declared.Order.{Order}
use Rattle.ledger_spec.specs.declared.PriceChange.{PriceChange}
use Rattle.ledger_spec.specs.Names.{same_name}
use Rattle.ledger_spec.specs.Tables.{Tables, row_in, rows_with, AreRows, is_limit, row_of, with_row, with_change, with_raised, with_lifted, lifted_by, lifted_row}
use Rattle.ledger_spec.proofs.Lookups.{found_serial}
use Rattle.shop_tables.specs.Schema.{shop_schema, raised_tree}
use Rattle.shop_tables.specs.Stored.{device_columns, order_columns, change_columns, raised_columns, lifted_columns, AreLimited, limit_by, Hold, row_columns}
use Rattle.shop_tables.specs.Telling.{Has}
use Rattle.shop_tables.specs.declared.statements.TheConstants.{ADD_DEVICE, ADD_ORDER, ADD_PRICE, PUT_DEVICE, RAISE, SKIP}
use Rattle.shop_tables.proofs.Inserting.{Puts}
use Rattle.shop_tables.proofs.Adding.{added_order, added_price, added_raised, added_device}
use Rattle.shop_tables.proofs.Holding.{with_added, with_price, with_device, with_raised_one, with_raised_new, limit_of_new, known_with}
use Rattle.shop_tables.proofs.Putting.{put_device}
use Rattle.shop_tables.proofs.Lifting.{lift_device}
use Rattle.shop_tables.proofs.Saying.{limited}

-- the limits stay as the raised serials say
limits_stay : (row : Row) (serials : List (List ℕ)) (rows : List Row) → row.limit ≡ limit_by serials row.serial → AreLimited serials rows → AreLimited serials (rows_with row rows)
limits_stay row serials [] is are = tt
limits_stay row serials (old ∷ rows) is are = (
  (elim (same_name old.serial row.serial) as (λ t. same_name old.serial row.serial ≡ t → (cond t row old).limit ≡ limit_by serials (cond t row old).serial) [
    | true ↦ λ same. is
    | false ↦ λ other. are.0
  ]) refl,
  limits_stay row serials rows is are.1,
)

limit_by_test : (n : ℕ) (t : Bool) → (n == LAST) ≡ t → is_limit n ≡ true → n ≡ cond (not t) GREAT LAST
limit_by_test n true same is = grind (arith, nat_tests)
limit_by_test n false other is = grind (arith, nat_tests)

pub limit_is : (n : ℕ) → is_limit n ≡ true → n ≡ cond (not (n == LAST)) GREAT LAST
limit_is n is = limit_by_test n (n == LAST) refl is

-- a serial was put among the raised ones
abbrev PutsRaised : State → State → List ℕ → Type 0
PutsRaised old new serial =
    Puts raised_tree (Int (next_rowid (old.now.trees raised_tree)) ∷ raised_columns serial) (let d : Database = record { schema = shop_schema; trees = old.now.trees } in d) new.now

pub some_is : {X : Type 0} (o : Option X) → IsSome o → (x : X) × (o ≡ Some x)
some_is None h = absurd (let e : false ≡ true = h in cc)
some_is (Some x) h = (x, refl)

module _ (old new : State) (tables : Tables) (has : Has old.now tables) (n : ℕ) where
  -- a new order
  pub adds_order : (order : Order) → Executes ADD_ORDER.now (order_columns order) old new (Ok n) → Has new.now (record tables { orders = order ∷ tables.orders })
  adds_order order h = let puts = added_order old new order n has.0 h in (puts.schema, with_added old.now.trees new.now order tables has.1 puts)

  -- a new change of a price
  pub adds_price : (change : PriceChange) → Executes ADD_PRICE.now (change_columns change) old new (Ok n) → Has new.now (with_change change tables)
  adds_price change h = let puts = added_price old new change n has.0 h in (puts.schema, with_price old.now.trees new.now change tables has.1 puts)

  -- the limit of a row is raised
  pub raises : (serial : List ℕ) → AreRows tables.rows → IsSome (row_of tables serial) → Executes RAISE.now (raised_columns serial) old new (Ok n) → Has new.now (with_raised serial tables)
  raises serial are some h =
      let it = some_is (row_of tables serial) some in
      let puts = added_raised old new serial n has.0 h in (
        puts.schema,
        subst (λ s. row_in tables.rows s ≡ Some it.0 → PutsRaised old new s → Hold new.now.trees (with_raised s tables)) (found_serial tables.rows serial it.0 it.1)
            (λ is puts. with_raised_one old.now.trees new.now it.0 tables has.1 are is puts) it.1 puts,
      )

  -- a new row with the lower limit
  pub adds_device : (row : Row) → row.limit ≡ LAST → row_of tables row.serial ≡ None → Executes ADD_DEVICE.now (device_columns row) old new (Ok n) → Has new.now (with_row row tables)
  adds_device row low none h =
      let puts = added_device old new row n has.0 h in
      (puts.schema, with_device old.now.trees new.now row tables has.1 (low ∙ sym (limit_of_new row.serial tables.rows has.1.serials none has.1.known)) puts)

  -- a row in the place of that of its serial
  pub puts_device : (row : Row) → AreRows tables.rows → IsSome (row_of tables row.serial) → is_limit row.limit ≡ true → Executes PUT_DEVICE.now (row_columns row) old new (Ok n) → n ≡ 1
      → Has new.now (record tables { rows = rows_with row tables.rows })
  puts_device row are some limit h one =
      let it = some_is (row_of tables row.serial) some in
      let raise = not (row.limit == LAST) in
      let then = put_device row raise old new tables.rows has.1.serials it.0 n has.0 has.1.rows has.1.raised are it.1 h one in (
        then.1,
        record {
          rows = then.2;
          orders = then.3.1.0 (λ e. omega (arith, e)) ∙ has.1.orders;
          changes = then.3.1.1.1.0 (λ e. omega (arith, e)) ∙ has.1.changes;
          serials = has.1.serials;
          raised = then.3.1.1.0 (λ e. omega (arith, e)) ∙ has.1.raised;
          limits = limits_stay row has.1.serials tables.rows (limit_is row.limit limit ∙ ap (λ t. cond t GREAT LAST) (sym then.0)) has.1.limits;
          known = known_with row tables.rows it.0 it.1 has.1.serials has.1.known;
        },
      )

  -- the last count of a row is lifted
  pub lifts : (serial : List ℕ) (to : ℕ) → AreRows tables.rows → IsSome (row_of tables serial) → Executes SKIP.now (lifted_columns serial to) old new (Ok n) → n ≡ 1 → Has new.now (with_lifted to serial tables)
  lifts serial to are some h one =
      let it = some_is (row_of tables serial) some in
      subst (λ s. row_in tables.rows s ≡ Some it.0 → Executes SKIP.now (lifted_columns s to) old new (Ok n) → Has new.now (with_lifted to s tables)) (found_serial tables.rows serial it.0 it.1)
      (lifted it.0 to are one) it.1 h
    where
      lifted : (kept : Row) (to : ℕ) → AreRows tables.rows → n ≡ 1 → row_in tables.rows kept.serial ≡ Some kept → Executes SKIP.now (lifted_columns kept.serial to) old new (Ok n)
          → Has new.now (with_lifted to kept.serial tables)
      lifted kept to are one is h =
          let then = lift_device kept to old new tables.rows n has.0 has.1.rows are is h one in
          let row = lifted_row to kept in
          subst (λ o. Has new.now (lifted_by to o tables)) (sym is) (
            then.0,
            record {
              rows = then.1;
              orders = then.2.1.0 (λ e. omega (arith, e)) ∙ has.1.orders;
              changes = then.2.1.1.1.0 (λ e. omega (arith, e)) ∙ has.1.changes;
              serials = has.1.serials;
              raised = then.2.1.1.0 (λ e. omega (arith, e)) ∙ has.1.raised;
              limits = limits_stay row has.1.serials tables.rows (limited has.1.serials tables.rows kept.serial kept has.1.limits is) has.1.limits;
              known = known_with row tables.rows kept is has.1.serials has.1.known;
            },
          )

-- A new row with the greater limit, and its serial among the raised ones.
pub adds_raised : (old mid new : State) (tables : Tables) → Has old.now tables → (m n : ℕ) (row : Row) → row.limit ≡ GREAT → row_of tables row.serial ≡ None
    → Executes ADD_DEVICE.now (device_columns row) old mid (Ok m) → Executes RAISE.now (raised_columns row.serial) mid new (Ok n) → Has new.now (with_row row tables)
adds_raised old mid new tables has m n row great none one two =
    let first = added_device old mid row m has.0 one in
    let then = added_raised mid new row.serial n first.schema two in
    (then.schema, with_raised_new old.now.trees mid.now new.now row tables has.1 great none first then)

-- A limit that isn't the lower one is the greater one.
pub great_is : (n : ℕ) → is_limit n ≡ true → n ≢ LAST → n ≡ GREAT
great_is n is other = grind (arith, nat_tests)
