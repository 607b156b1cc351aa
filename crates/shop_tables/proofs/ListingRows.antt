-- The statement that asks for all rows shows them as the ledger lists them.
use Rattle.std.proofs.Common.{◌≡◌, ℕ, min, length, List, [], ◌∷◌, map, Bool, true, false, cond, ◌&&◌, refl, sym, ap, ◌∙◌, is_eq}
use Rattle.std.specs.List.{AllByRecursion, flat_map}
use Rattle.std.specs.Prelude.{reverse}
use Rattle.sqlite_trees.specs.Tree.{IsAscending}
use Rattle.sqlite_keyed.proofs.ListLemmas.{all_of, filter_all, ascending_weaker}
use Rattle.sqlite_schema.specs.declared.program.Program.{Program}
use Rattle.sqlite.specs.Command.TheVariants.{Select}
use Rattle.sqlite.specs.declared.types.Value.TheVariants.{Null, Text}
use Rattle.sqlite.specs.Order.{Row as Columns}
use Rattle.sqlite.specs.Program.{overlay}
use Rattle.sqlite.specs.Term.{Env, Term, col}
use Rattle.sqlite.specs.Tree.{Trees}
use Rattle.sqlite.specs.Query.{Output, IsAnswer, matches, output, output_cmp, inner, counted, end}
use Rattle.sqlite.specs.State.{State, Shown}
use Rattle.sqlite.proofs.Callers.{reads_as}
use Rattle.ledger_spec.specs.declared.Row.{Row}
use Rattle.ledger_spec.specs.Names.{same_name}
use Rattle.ledger_spec.specs.Sorted.{row_before, all_rows}
use Rattle.ledger_spec.specs.Tables.{Tables, Kept, AreRows, has_serial}
use Rattle.ledger_spec.proofs.SortedLemmas.{all_sorted}
use Rattle.shop_tables.specs.Schema.{shop_schema, device_tree, raised_tree}
use Rattle.shop_tables.specs.Stored.{count, stored_by, device_columns, raised_columns, row_columns, AreLimited}
use Rattle.shop_tables.specs.Telling.{Tells}
use Rattle.shop_tables.specs.declared.statements.TheConstants.{DEVICES}
use Rattle.shop_tables.proofs.Commands.{same, device_project, device_names}
use Rattle.shop_tables.proofs.Finding.{found_in, same_text}
use Rattle.shop_tables.proofs.Raised.{raised_or_not, and_true}
use Rattle.shop_tables.proofs.Asking.{is_among, told_columns}
use Rattle.shop_tables.proofs.Saying.{told_is}
use Rattle.shop_tables.proofs.ListingShown.{shown_sorted, none_found}
use Rattle.shop_tables.proofs.ListingStatements.{devices_query, by_serial, devices_is, devices_plain, devices_unlisted}
use Rattle.shop_tables.proofs.ListingKeys.{above_one, apart_one, text_above, text_apart}
use Rattle.shop_tables.proofs.ListingAsked.{all_shown}

-- whether a row of the raised ones is that of the device
abbrev of_device : List Term
of_device = same (col 2 1) (col 1 1) ∷ []

abbrev anything : Row → Bool
anything row = true

module _ (serials : List (List ℕ)) where
  -- what a row is sorted by, and what is shown of it
  abbrev out : Row → Output
  out row = (Text row.serial ∷ [], told_columns serials row)

  -- what the search sees of a row with its number
  abbrev seen : ℕ × Row → Env
  seen h = [] ∷ (count h.0 ∷ device_columns h.1) ∷ (count (cond (is_among serials h.1.serial) 1 0) ∷ []) ∷ []

  module _ (db : Trees) (raised : db raised_tree ≡ stored_by raised_columns serials) where
    abbrev raised_in : Columns → Columns → List Env
    raised_in r s = matches (overlay db []) of_device end ([] ∷ r ∷ s ∷ [])

    raised_each : (n : ℕ) (x : Row) (k : ℕ) (s : List ℕ) → raised_in (count n ∷ device_columns x) (count k ∷ raised_columns s)
        ≡ cond (same_name s x.serial) (([] ∷ (count n ∷ device_columns x) ∷ (count k ∷ raised_columns s) ∷ []) ∷ []) []
    raised_each n x k s =
        let env : Env = [] ∷ (count n ∷ device_columns x) ∷ (count k ∷ raised_columns s) ∷ [] in
        ap (λ t. cond (t && true) (env ∷ []) []) (same_text s x.serial) ∙ ap (λ t. cond t (env ∷ []) []) (and_true (same_name s x.serial))

    abbrev find_in : Columns → List Env
    find_in r = matches (overlay db []) [] (counted 1 (inner raised_tree end) of_device end) ([] ∷ r ∷ [])

    each : (n : ℕ) (x : Row) → find_in (count n ∷ device_columns x) ≡ seen (n, x) ∷ []
    each n x =
        let r : Columns = count n ∷ device_columns x in
        let c : min 1 (length (flat_map (raised_in r) (db raised_tree))) ≡ cond (is_among serials x.serial) 1 0 =
        ap (λ l. min 1 (length (flat_map (raised_in r) l))) raised ∙ raised_or_not x.serial (raised_in r) (λ k s. [] ∷ r ∷ (count k ∷ raised_columns s) ∷ []) (raised_each n x) serials in
        ap (λ k. matches (overlay db []) [] end ([] ∷ r ∷ (count k ∷ []) ∷ [])) c

    met : (rows : List Row) → db device_tree ≡ stored_by device_columns rows
        → map (output devices_query) (matches (overlay db []) devices_query.filter devices_query.from ([] ∷ [])) ≡ reverse (map out rows)
    met rows devices =
        ap (map (output devices_query)) (ap (flat_map find_in) devices ∙ found_in device_columns find_in anything (λ n x. seen (n, x)) each rows)
        ∙ all_shown devices_query seen anything out (λ h. refl) rows
        ∙ ap (λ l. reverse (map out l)) (filter_all anything rows (all_of (λ r. anything r ≡ true) (λ r. refl) rows))

  serials_differ : (rows : List Row) → AreRows rows → IsAscending (λ x y. has_serial x.serial y ≡ false) rows
  serials_differ [] are = tt
  serials_differ (row ∷ rows) are = (none_found (has_serial row.serial) rows are.1, serials_differ rows are.2)

  rows_apart : (rows : List Row) → AreRows rows → IsAscending (λ x y. is_eq (output_cmp devices_query (out x) (out y)) ≡ false) rows
  rows_apart rows are =
      ascending_weaker (λ x y. has_serial x.serial y ≡ false) (λ x y. is_eq (output_cmp devices_query (out x) (out y)) ≡ false) (λ x y differ. apart_one _ (text_apart x.serial y.serial differ)) rows
      (serials_differ rows are)

  abbrev IsTold : Row → Type 0
  IsTold row = told_columns serials row ≡ row_columns row

  all_told : (rows : List Row) → AreLimited serials rows → AllByRecursion IsTold rows
  all_told [] are = tt
  all_told (row ∷ rows) are = (told_is serials row are.0, all_told rows are.1)

  as_columns : (rows : List Row) → AllByRecursion IsTold rows → map (told_columns serials) rows ≡ map row_columns rows
  as_columns [] all = refl
  as_columns (row ∷ rows) all = rw (as_columns rows all.1) (ap (λ r. r ∷ map row_columns rows) all.0)

pub rows_shown : (old new : State) (shown : List Columns) → Shown DEVICES.now [] old new shown → (tables : Tables) → Tells old tables → Kept tables → shown ≡ map row_columns (all_rows tables)
rows_shown old new shown h tables tells kept =
    let q : Program = record { lets = []; body = devices_query } in
    let db = overlay old.now.trees [] in
    let serials = tells.hold.serials in
    let answer : IsAnswer devices_query db [] shown = (reads_as DEVICES.now [] old new shop_schema tells.schema (Select q device_names) devices_is devices_plain devices_unlisted shown h).answer Null in
    shown_sorted devices_query.from [] device_project by_serial (out serials) db [] shown tables.rows (met serials old.now.trees tells.hold.raised tables.rows tells.hold.rows) answer
    row_before (λ x y. sym (above_one _ ∙ text_above x.serial y.serial)) (rows_apart serials tables.rows kept.rows)
    ∙ as_columns serials (all_rows tables) (all_sorted row_before (IsTold serials) tables.rows (all_told serials tables.rows tells.hold.limits))
