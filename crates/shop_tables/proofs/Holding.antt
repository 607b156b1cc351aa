-- What the trees hold once a row was added to one of them.
use Rattle.std.proofs.Common.{◌≡◌, ℕ, suc, List, [], ◌∷◌, ◌++◌, length, true, false, cond, ◌||◌, Some, None, Option, IsSome, refl, sym, ap, subst, ◌∙◌, arith}
use Rattle.std.specs.List.{list_any}
use Rattle.std.proofs.lemmas.List.{length-map}
use Rattle.sqlite.specs.declared.types.Value.TheVariants.{Int}
use Rattle.sqlite.specs.Order.{Row as Columns}
use Rattle.sqlite.specs.Tree.{Trees, put_row}
use Rattle.sqlite.specs.Edit.{next_rowid}
use Rattle.sqlite.specs.Effect.{Database}
use Rattle.paygo_spec.specs.declared.TheConstants.{GREAT, LAST}
use Rattle.ledger_spec.specs.declared.Row.{Row}
use Rattle.ledger_spec.specs.declared.Order.{Order}
use Rattle.ledger_spec.specs.declared.PriceChange.{PriceChange}
use Rattle.ledger_spec.specs.Names.{same_name}
use Rattle.ledger_spec.specs.Tables.{Tables, has_serial, row_in, rows_with, raised_row, with_raised, raised_by, with_change, with_row, AreRows}
use Rattle.ledger_spec.proofs.NameLemmas.{same_is, is_same, self_same}
use Rattle.ledger_spec.proofs.KeptLemmas.{some_with}
use Rattle.shop_tables.specs.Schema.{shop_schema, device_tree, order_tree, raised_tree, change_tree}
use Rattle.shop_tables.specs.Stored.{count, stored_by, device_columns, order_columns, change_columns, raised_columns, AreLimited, AreKnown, limit_by, Hold}
use Rattle.shop_tables.proofs.Inserting.{Puts}
use Rattle.shop_tables.proofs.Pushing.{pushed}
use Rattle.shop_tables.proofs.Finding.{none_hit}
use Rattle.shop_tables.proofs.Replacing.{no_hit}

pushed_at : {X : Type 0} (columns : X → Columns) (xs : List X) (x : X) (old : List Columns) → old ≡ stored_by columns xs → put_row (Int (next_rowid old) ∷ columns x) old ≡ stored_by columns (x ∷ xs)
pushed_at columns xs x old is = ap (λ l. put_row (Int (next_rowid l) ∷ columns x) l) is ∙ pushed columns xs x

pub with_price : (old : Trees) (new : Database) (change : PriceChange) (tables : Tables) → Hold old tables
    → Puts change_tree (Int (next_rowid (old change_tree)) ∷ change_columns change) (let d : Database = record { schema = shop_schema; trees = old } in d) new → Hold new.trees (with_change change tables)
with_price old new change tables hold puts = record {
  rows = puts.others.0 (λ e. omega (arith, e)) ∙ hold.rows;
  orders = puts.others.1.0 (λ e. omega (arith, e)) ∙ hold.orders;
  changes = puts.rows ∙ pushed_at change_columns tables.changes change (old change_tree) hold.changes;
  serials = hold.serials;
  raised = puts.others.1.1.0 (λ e. omega (arith, e)) ∙ hold.raised;
  limits = hold.limits;
  known = hold.known;
}

some_by : {X : Type 0} (x : X) (o : Option X) → o ≡ Some x → IsSome o
some_by x None is = absurd (let bad : None ≡ Some x = is in cc)
some_by x (Some y) is = refl

-- who has a row has one beside a new row
known_beside : (row : Row) (rows : List Row) (serials : List (List ℕ)) → AreKnown rows serials → AreKnown (row ∷ rows) serials
known_beside row rows [] known = tt
known_beside row rows (serial ∷ serials) known = (
  (elim (has_serial serial row) as (λ t. IsSome (cond t (Some row) (row_in rows serial))) [
    | true ↦ refl
    | false ↦ known.0
  ]),
  known_beside row rows serials known.1,
)

-- and where a row is put in the place of another
pub known_with : (row : Row) (rows : List Row) (old : Row) → row_in rows row.serial ≡ Some old → (serials : List (List ℕ)) → AreKnown rows serials → AreKnown (rows_with row rows) serials
known_with row rows old is [] known = tt
known_with row rows old is (serial ∷ serials) known = (some_with row rows old is serial known.0, known_with row rows old is serials known.1)

-- a new order
pub with_added : (old : Trees) (new : Database) (order : Order) (tables : Tables) → Hold old tables
    → Puts order_tree (Int (next_rowid (old order_tree)) ∷ order_columns order) (let d : Database = record { schema = shop_schema; trees = old } in d) new
    → Hold new.trees (record tables { orders = order ∷ tables.orders })
with_added old new order tables hold puts = record {
  rows = puts.others.0 (λ e. omega (arith, e)) ∙ hold.rows;
  orders = puts.rows ∙ pushed_at order_columns tables.orders order (old order_tree) hold.orders;
  changes = puts.others.1.1.1.0 (λ e. omega (arith, e)) ∙ hold.changes;
  serials = hold.serials;
  raised = puts.others.1.1.0 (λ e. omega (arith, e)) ∙ hold.raised;
  limits = hold.limits;
  known = hold.known;
}

-- a new row whose serial isn't raised
pub with_device : (old : Trees) (new : Database) (row : Row) (tables : Tables) (hold : Hold old tables) → row.limit ≡ limit_by hold.serials row.serial
    → Puts device_tree (Int (next_rowid (old device_tree)) ∷ device_columns row) (let d : Database = record { schema = shop_schema; trees = old } in d) new → Hold new.trees (with_row row tables)
with_device old new row tables hold limit puts = record {
  rows = puts.rows ∙ pushed_at device_columns tables.rows row (old device_tree) hold.rows;
  orders = puts.others.1.0 (λ e. omega (arith, e)) ∙ hold.orders;
  changes = puts.others.1.1.1.0 (λ e. omega (arith, e)) ∙ hold.changes;
  serials = hold.serials;
  raised = puts.others.1.1.0 (λ e. omega (arith, e)) ∙ hold.raised;
  limits = (limit, hold.limits);
  known = known_beside row tables.rows hold.serials hold.known;
}

-- ---- the limit of one row is raised

different : (a b : List ℕ) → same_name b a ≡ false → same_name a b ≡ false
different a b h = (elim (same_name a b) as (λ t. same_name a b ≡ t → t ≡ false) [
  | true ↦ λ same. absurd (let e : true ≡ false = sym (is_same b a (sym (same_is a b same))) ∙ h in cc)
  | false ↦ λ other. refl
]) refl

-- the limits, where one serial more is raised: a row with another serial has the limit that it had
raised_limits : (row : Row) (serials : List (List ℕ)) (rows : List Row) → AreLimited serials rows → AreLimited (row.serial ∷ serials) (rows_with (raised_row row) rows)
raised_limits row serials [] are = tt
raised_limits row serials (old ∷ rows) are = (here, raised_limits row serials rows are.1)
  where
    here : (cond (same_name old.serial row.serial) (raised_row row) old).limit ≡ limit_by (row.serial ∷ serials) (cond (same_name old.serial row.serial) (raised_row row) old).serial
    here = (elim (same_name old.serial row.serial) as (λ t. same_name old.serial row.serial ≡ t → (cond t (raised_row row) old).limit ≡ limit_by (row.serial ∷ serials) (cond t (raised_row row) old).serial) [
      | true ↦ λ same. rw (self_same row.serial) refl
      | false ↦ λ other. rw (different row.serial old.serial other) are.0
    ]) refl

-- the columns of the rows don't tell the limit
columns_stay : (row : Row) (rows : List Row) → AreRows rows → row_in rows row.serial ≡ Some row → stored_by device_columns (rows_with (raised_row row) rows) ≡ stored_by device_columns rows
columns_stay row [] are is = refl
columns_stay row (first ∷ rows) are is = (elim (same_name first.serial row.serial) as (λ t. same_name first.serial row.serial ≡ t → ◌≡◌ {A = Option Row} (cond t (Some first) (row_in rows row.serial)) (Some row)
    → stored_by device_columns (cond t (raised_row row) first ∷ rows_with (raised_row row) rows) ≡ stored_by device_columns (first ∷ rows)) [
      | true ↦ λ same found.
          let one : first ≡ row = cc in
          let none : row_in rows row.serial ≡ None = ap (row_in rows) (sym (same_is first.serial row.serial same)) ∙ are.1 in
          let still : rows_with (raised_row row) rows ≡ rows = no_hit device_columns (has_serial row.serial) (raised_row row) rows (none_hit rows row.serial none) in
          ap (λ l. stored_by device_columns (raised_row row ∷ l)) still ∙ ap (λ (r : Row). stored_by device_columns (r ∷ rows)) (sym one)
      | false ↦ λ other found.
          ap (λ k. stored_by device_columns (rows_with (raised_row row) rows) ++ (count (suc k) ∷ device_columns first) ∷ []) (length-map rows _)
          ∙ ap (λ l. l ++ (count (suc (length rows)) ∷ device_columns first) ∷ []) (columns_stay row rows are.2 found)
    ]) refl is

-- What is raised is the row of the serial.
pub with_raised_one : (old : Trees) (new : Database) (row : Row) (tables : Tables) (hold : Hold old tables) → AreRows tables.rows → row_in tables.rows row.serial ≡ Some row
    → Puts raised_tree (Int (next_rowid (old raised_tree)) ∷ raised_columns row.serial) (let d : Database = record { schema = shop_schema; trees = old } in d) new
    → Hold new.trees (with_raised row.serial tables)
with_raised_one old new row tables hold are is puts = subst (λ o. Hold new.trees (raised_by o tables)) (sym is) (record {
  rows = puts.others.0 (λ e. omega (arith, e)) ∙ (hold.rows ∙ sym (columns_stay row tables.rows are is));
  orders = puts.others.1.0 (λ e. omega (arith, e)) ∙ hold.orders;
  changes = puts.others.1.1.1.0 (λ e. omega (arith, e)) ∙ hold.changes;
  serials = row.serial ∷ hold.serials;
  raised = puts.rows ∙ pushed_at raised_columns hold.serials row.serial (old raised_tree) hold.raised;
  limits = raised_limits row hold.serials tables.rows hold.limits;
  known = (
    some_with (raised_row row) tables.rows row is row.serial (some_by row (row_in tables.rows row.serial) is),
    known_with (raised_row row) tables.rows row is hold.serials hold.known,
  );
})

-- ---- a new row, and its limit raised

-- a serial without a row isn't among the raised ones
pub limit_of_new : (serial : List ℕ) (rows : List Row) (serials : List (List ℕ)) → row_in rows serial ≡ None → AreKnown rows serials → limit_by serials serial ≡ LAST
limit_of_new serial rows [] none known = refl
limit_of_new serial rows (s ∷ serials) none known = (elim (same_name s serial) as (λ t. same_name s serial ≡ t → cond (t || list_any (λ s. same_name s serial) serials) GREAT LAST ≡ LAST) [
  | true ↦ λ same. absurd (let bad = subst (λ (o : Option Row). IsSome o) (ap (row_in rows) (same_is s serial same) ∙ none) known.0 in let e : false ≡ true = bad in cc)
  | false ↦ λ other. limit_of_new serial rows serials none known.1
]) refl

-- and the other rows have the limits that they had
limits_beside : (serial : List ℕ) (serials : List (List ℕ)) (rows : List Row) → row_in rows serial ≡ None → AreLimited serials rows → AreLimited (serial ∷ serials) rows
limits_beside serial serials [] none are = tt
limits_beside serial serials (row ∷ rows) none are = (elim (same_name row.serial serial) as (λ t. same_name row.serial serial ≡ t → ◌≡◌ {A = Option Row} (cond t (Some row) (row_in rows serial)) None
    → (row.limit ≡ limit_by (serial ∷ serials) row.serial) × AreLimited (serial ∷ serials) rows) [
      | true ↦ λ same found. absurd (let e : Some row ≡ None = found in cc)
      | false ↦ λ other none. (rw (different serial row.serial other) are.0, limits_beside serial serials rows none are.1)
    ]) refl none

pub with_raised_new : (old : Trees) (mid new : Database) (row : Row) (tables : Tables) → Hold old tables → row.limit ≡ GREAT → row_in tables.rows row.serial ≡ None
    → Puts device_tree (Int (next_rowid (old device_tree)) ∷ device_columns row) (let d : Database = record { schema = shop_schema; trees = old } in d) mid
    → Puts raised_tree (Int (next_rowid (mid.trees raised_tree)) ∷ raised_columns row.serial) (let d : Database = record { schema = shop_schema; trees = mid.trees } in d) new → Hold new.trees (with_row row tables)
with_raised_new old mid new row tables hold great none first then = record {
  rows = then.others.0 (λ e. omega (arith, e)) ∙ (first.rows ∙ pushed_at device_columns tables.rows row (old device_tree) hold.rows);
  orders = then.others.1.0 (λ e. omega (arith, e)) ∙ (first.others.1.0 (λ e. omega (arith, e)) ∙ hold.orders);
  changes = then.others.1.1.1.0 (λ e. omega (arith, e)) ∙ (first.others.1.1.1.0 (λ e. omega (arith, e)) ∙ hold.changes);
  serials = row.serial ∷ hold.serials;
  raised = then.rows ∙ pushed_at raised_columns hold.serials row.serial (mid.trees raised_tree) (first.others.1.1.0 (λ e. omega (arith, e)) ∙ hold.raised);
  limits = (rw (self_same row.serial) great, limits_beside row.serial hold.serials tables.rows none hold.limits);
  known = (rw (self_same row.serial) refl, known_beside row tables.rows hold.serials hold.known);
}
