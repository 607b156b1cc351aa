-- What the statement that asks for a row shows.
use Rattle.std.proofs.Common.{length, min, ◌≡◌, ℕ, List, [], ◌∷◌, ◌++◌, map, Bool, true, cond, ◌&&◌, Some, None, ap, subst, ◌∙◌}
use Rattle.std.specs.List.{list_any, flat_map}
use Rattle.std.specs.Prelude.{reverse}
use Rattle.std.specs.List.Sorted.{IsPermutation}
use Rattle.std.proofs.lemmas.List.Sorted.{length_permutation}
use Rattle.sqlite.specs.declared.types.Value.TheVariants.{Null, Text}
use Rattle.sqlite.specs.Order.{Row as Columns}
use Rattle.sqlite.specs.Term.{Env, col}
use Rattle.sqlite.specs.Query.{IsAnswer, matches, output, page, Output, inner, counted, end}
use Rattle.sqlite.specs.Program.{overlay}
use Rattle.sqlite.specs.Tree.{Trees}
use Rattle.sqlite.specs.Command.TheVariants.{Select}
use Rattle.sqlite_schema.specs.declared.program.Program.{Program}
use Rattle.sqlite.specs.State.{State, Shown}
use Rattle.sqlite.proofs.Callers.{reads_as, one_permutation}
use Rattle.ledger_spec.specs.declared.Row.{Row}
use Rattle.ledger_spec.specs.Names.{same_name}
use Rattle.ledger_spec.specs.Tables.{has_serial, row_in, AreRows}
use Rattle.shop_tables.specs.Schema.{shop_schema, device_tree, raised_tree}
use Rattle.shop_tables.specs.Stored.{count, stored_by, device_columns, raised_columns}
use Rattle.shop_tables.specs.declared.statements.TheConstants.{DEVICE}
use Rattle.shop_tables.proofs.Commands.{same, device_query, device_names, device_is, device_plain, device_unlisted}
use Rattle.shop_tables.proofs.Finding.{hits, found_in, same_text, none_hit, one_hit}
use Rattle.shop_tables.proofs.Raised.{raised_or_not, and_true}
use Rattle.shop_tables.proofs.Putting.{nothing_left}

-- whether the serial is among the raised ones
abbrev pub is_among : List (List ℕ) → List ℕ → Bool
is_among serials serial = list_any (λ s. same_name s serial) serials

-- a row as it is shown: its columns, and whether its limit was raised
abbrev pub told_columns : List (List ℕ) → Row → Columns
told_columns serials row = device_columns row ++ count (cond (is_among serials row.serial) 1 0) ∷ []

module _ (serial : List ℕ) where
  abbrev pub given : Columns
  given = Text serial ∷ []

  abbrev seen : List (List ℕ) → ℕ → Row → Env
  seen serials n x = given ∷ (count n ∷ device_columns x) ∷ (count (cond (is_among serials x.serial) 1 0) ∷ []) ∷ []

  module _ (db : Trees) where
    -- the raised rows of a device's serial
    abbrev raised_in : Columns → Columns → List Env
    raised_in r s = matches (overlay db []) (same (col 2 1) (col 1 1) ∷ []) end (given ∷ r ∷ s ∷ [])

    raised_each : (n : ℕ) (x : Row) (k : ℕ) (s : List ℕ) → raised_in (count n ∷ device_columns x) (count k ∷ raised_columns s)
        ≡ cond (same_name s x.serial) ((given ∷ (count n ∷ device_columns x) ∷ (count k ∷ raised_columns s) ∷ []) ∷ []) []
    raised_each n x k s =
        let env : Env = given ∷ (count n ∷ device_columns x) ∷ (count k ∷ raised_columns s) ∷ [] in
        ap (λ t. cond (t && true) (env ∷ []) []) (same_text s x.serial) ∙ ap (λ t. cond t (env ∷ []) []) (and_true (same_name s x.serial))

    -- what the search finds at a row
    abbrev find_in : Columns → List Env
    find_in r = matches (overlay db []) device_query.filter (counted 1 (inner raised_tree end) (same (col 2 1) (col 1 1) ∷ []) end) (given ∷ r ∷ [])

    module _ (serials : List (List ℕ)) (raised : db raised_tree ≡ stored_by raised_columns serials) where
      each : (n : ℕ) (x : Row) → find_in (count n ∷ device_columns x) ≡ cond (has_serial serial x) (seen serials n x ∷ []) []
      each n x =
          let r : Columns = count n ∷ device_columns x in
          let env : Env = seen serials n x in
          let c : min 1 (length (flat_map (raised_in r) (db raised_tree))) ≡ cond (is_among serials x.serial) 1 0 =
          ap (λ l. min 1 (length (flat_map (raised_in r) l))) raised ∙ raised_or_not x.serial (raised_in r) (λ k s. given ∷ r ∷ (count k ∷ raised_columns s) ∷ []) (raised_each n x) serials in
          ap (λ k. matches (overlay db []) device_query.filter end (given ∷ r ∷ (count k ∷ []) ∷ [])) c
          ∙ ap (λ t. cond (t && true) (env ∷ []) []) (same_text x.serial serial)
          ∙ ap (λ t. cond t (env ∷ []) []) (and_true (same_name x.serial serial))

      found : (rows : List Row) → db device_tree ≡ stored_by device_columns rows
          → matches (overlay db []) device_query.filter device_query.from (given ∷ []) ≡ reverse (map (λ h. seen serials h.0 h.1) (hits (has_serial serial) rows))
      found rows devices = ap (flat_map find_in) devices ∙ found_in device_columns find_in (has_serial serial) (seen serials) each rows

      -- nothing is shown where no row has the serial
      pub shown_none : (rows : List Row) (shown : List Columns) → db device_tree ≡ stored_by device_columns rows → row_in rows serial ≡ None
          → IsAnswer device_query (overlay db []) given shown → shown ≡ []
      shown_none rows shown devices none a =
          let staged : a.staged ≡ [] = a.grouped ∙ (found rows devices ∙ ap (λ l. reverse (map (λ h. seen serials h.0 h.1) l)) (none_hit rows serial none)) in
          let all : a.kept ≡ [] = a.distinct ∙ ap (map (output device_query)) staged in
          let ordered : a.ordered ≡ [] = nothing_left a.ordered (length_permutation a.kept a.ordered a.same ∙ ap length all) in
          a.shown ∙ ap (λ xs. page device_query given (map (λ (p : Output). p.1) xs)) ordered

      -- the row is shown
      pub shown_row : (rows : List Row) (shown : List Columns) (row : Row) → db device_tree ≡ stored_by device_columns rows → AreRows rows → row_in rows serial ≡ Some row
          → IsAnswer device_query (overlay db []) given shown → shown ≡ told_columns serials row ∷ []
      shown_row rows shown row devices are is a =
          let hit = one_hit rows serial row are is in
          let staged : a.staged ≡ seen serials hit.0 row ∷ [] = a.grouped ∙ (found rows devices ∙ ap (λ l. reverse (map (λ h. seen serials h.0 h.1) l)) hit.1) in
          let o : Output = ([], told_columns serials row) in
          let all : a.kept ≡ o ∷ [] = a.distinct ∙ ap (map (output device_query)) staged in
          let ordered = one_permutation o a.ordered (subst (λ k. IsPermutation k a.ordered) all a.same) in
          a.shown ∙ ap (λ xs. page device_query given (map (λ (p : Output). p.1) xs)) ordered

  -- What the statement showed is an answer of the query.
  pub asked : (old new : State) (shown : List Columns) → old.now.schema ≡ shop_schema → Shown DEVICE.now given old new shown → IsAnswer device_query (overlay old.now.trees []) given shown
  asked old new shown has h =
      let q : Program = record { lets = []; body = device_query } in
      (reads_as DEVICE.now given old new shop_schema has (Select q device_names) device_is device_plain device_unlisted shown h).answer Null
