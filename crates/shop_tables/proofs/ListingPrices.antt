-- The statement that asks for the changes of a serial's price shows them as the ledger lists them.
use Rattle.std.proofs.Common.{◌≡◌, ℕ, List, [], ◌∷◌, map, filter, Bool, true, false, cond, None, refl, sym, ap, ◌∙◌, is_eq}
use Rattle.std.specs.Prelude.{find}
use Rattle.std.specs.List.{AllByRecursion}
use Rattle.sqlite_trees.specs.Tree.{IsAscending}
use Rattle.sqlite_keyed.proofs.ListLemmas.{ascending_weaker}
use Rattle.sqlite_schema.specs.declared.program.Program.{Program}
use Rattle.sqlite.specs.Command.TheVariants.{Select}
use Rattle.sqlite.specs.declared.types.Value.TheVariants.{Null}
use Rattle.sqlite.specs.Order.{Row as Columns}
use Rattle.sqlite.specs.Program.{overlay}
use Rattle.sqlite.specs.Query.{Output, IsAnswer, output, output_cmp, inner, end}
use Rattle.sqlite.specs.State.{State, Shown}
use Rattle.sqlite.proofs.Callers.{reads_as}
use Rattle.ledger_spec.specs.declared.PriceChange.{PriceChange}
use Rattle.ledger_spec.specs.declared.Row.{Row}
use Rattle.ledger_spec.specs.Putting.{put_among, sorted_by}
use Rattle.ledger_spec.specs.Tables.{Tables, Kept, AreChanges, has_from, is_change_of, change_before, prices_in, prices_for}
use Rattle.ledger_spec.proofs.NameLemmas.{same_is}
use Rattle.shop_tables.specs.Schema.{shop_schema, change_tree}
use Rattle.shop_tables.specs.Stored.{count, change_columns, raised_columns}
use Rattle.shop_tables.specs.Telling.{Tells}
use Rattle.shop_tables.specs.declared.statements.TheConstants.{PRICES}
use Rattle.shop_tables.proofs.ListingShown.{shown_sorted, none_found}
use Rattle.shop_tables.proofs.ListingStatements.{prices_query, change_names, of_given, change_project, by_from, prices_is, prices_plain, prices_unlisted}
use Rattle.shop_tables.proofs.ListingKeys.{above_one, apart_one, count_above, count_apart}
use Rattle.shop_tables.proofs.ListingAsked.{seen, asked_in, all_shown}

-- what a change is sorted by, and what is shown of it
abbrev out : PriceChange → Output
out change = (count change.from ∷ [], change_columns change)

-- what holds of each element in order holds of each
module _ {X : Type 0} (before : X → X → Bool) (P : X → Type 0) where
  all_unput : (x : X) (ys : List X) → AllByRecursion P (put_among before x ys) → P x × AllByRecursion P ys
  all_unput x [] all = (all.0, tt)
  all_unput x (y ∷ ys) all = (elim (before y x) as (λ b. AllByRecursion P (cond b (y ∷ put_among before x ys) (x ∷ y ∷ ys)) → P x × (P y × AllByRecursion P ys)) [
    | true ↦ λ all. let rest = all_unput x ys all.1 in (rest.0, (all.0, rest.1))
    | false ↦ λ all. (all.0, all.1)
  ]) all

  all_unsorted : (xs : List X) → AllByRecursion P (sorted_by before xs) → AllByRecursion P xs
  all_unsorted [] all = tt
  all_unsorted (x ∷ xs) all = let parts = all_unput x (sorted_by before xs) all in (parts.0, all_unsorted xs parts.1)

-- the changes of one device differ in the count from which they hold
froms_differ : (rows : List Row) (changes : List PriceChange) (serial : List ℕ) → AreChanges rows changes → IsAscending (λ x y. has_from x.from y ≡ false) (filter (is_change_of serial) changes)
froms_differ rows [] serial are = tt
froms_differ rows (change ∷ changes) serial are = (elim (is_change_of serial change) as (λ t. is_change_of serial change ≡ t
    → IsAscending (λ x y. has_from x.from y ≡ false) (cond t (change ∷ filter (is_change_of serial) changes) (filter (is_change_of serial) changes))) [
      | true ↦ λ own.
          let none : find (has_from change.from) (prices_in changes serial) ≡ None = ap (λ s. find (has_from change.from) (prices_in changes s)) (sym (same_is change.serial serial own)) ∙ are.1 in
          (all_unsorted change_before (λ y. has_from change.from y ≡ false) (filter (is_change_of serial) changes) (none_found (has_from change.from) (prices_in changes serial) none), froms_differ rows changes serial are.3)
      | false ↦ λ other. froms_differ rows changes serial are.3
    ]) refl

changes_apart : (rows : List Row) (changes : List PriceChange) (serial : List ℕ) → AreChanges rows changes
    → IsAscending (λ x y. is_eq (output_cmp prices_query (out x) (out y)) ≡ false) (filter (is_change_of serial) changes)
changes_apart rows changes serial are =
    ascending_weaker (λ x y. has_from x.from y ≡ false) (λ x y. is_eq (output_cmp prices_query (out x) (out y)) ≡ false) (λ x y differ. apart_one _ (count_apart x.from y.from differ)) (filter (is_change_of serial) changes)
    (froms_differ rows changes serial are)

pub prices_shown : (serial : List ℕ) (old new : State) (shown : List Columns) → Shown PRICES.now (raised_columns serial) old new shown → (tables : Tables) → Tells old tables → Kept tables
    → shown ≡ map change_columns (prices_for tables serial)
prices_shown serial old new shown h tables tells kept =
    let q : Program = record { lets = []; body = prices_query } in
    let db = overlay old.now.trees [] in
    let answer : IsAnswer prices_query db (raised_columns serial) shown =
    (reads_as PRICES.now (raised_columns serial) old new shop_schema tells.schema (Select q change_names) prices_is prices_plain prices_unlisted shown h).answer Null in
    let sees = seen change_columns (λ (c : PriceChange). c.serial) 1 (λ n x. refl) serial in
    let met = ap (map (output prices_query)) (asked_in change_columns (λ (c : PriceChange). c.serial) 1 (λ n x. refl) serial old.now.trees change_tree tables.changes tells.hold.changes)
    ∙ all_shown prices_query sees (is_change_of serial) out (λ h. refl) tables.changes in
    shown_sorted (inner change_tree end) (of_given 1) change_project by_from out db (raised_columns serial) shown (filter (is_change_of serial) tables.changes) met answer
    change_before (λ x y. sym (above_one _ ∙ count_above x.from y.from)) (changes_apart tables.rows tables.changes serial kept.changes)
