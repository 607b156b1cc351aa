-- What the statement that puts a row in the place of another makes of the shop's tables.
use Rattle.std.proofs.Common.{length, min, ◌≡◌, ◌≢◌, ◌⊎◌, inl, inr, ℕ, pos, List, [], ◌∷◌, ◌++◌, map, Bool, true, false, cond, drop, ◌&&◌, Some, None, Ok, refl, sym, ap, subst, ◌∙◌, arith, unwrap_or}
use Rattle.std.specs.List.{list_any, flat_map, AllByRecursion}
use Rattle.std.specs.Prelude.{reverse}
use Rattle.std.specs.List.Sorted.{IsPermutation}
use Rattle.std.proofs.lemmas.List.Sorted.{length_permutation}
use Rattle.sqlite.specs.declared.types.Value.TheVariants.{Null, Text, Blob}
use Rattle.sqlite.specs.Order.{Row as Columns}
use Rattle.sqlite.specs.Ops.{binary, is_true}
use Rattle.sqlite.specs.Term.{Env, col}
use Rattle.sqlite_sql.specs.declared.ops.BinaryOp.TheVariants.{Compare}
use Rattle.sqlite_sql.specs.declared.ops.CompareOp.TheVariants.{Eq}
use Rattle.sqlite.specs.Collation.TheVariants.{Binary}
use Rattle.sqlite.specs.Query.{IsAnswer, matches, output, page, Output, inner, counted, end}
use Rattle.sqlite.specs.Program.{overlay}
use Rattle.sqlite.specs.Tree.{Trees, put_row, without_rowid}
use Rattle.sqlite.specs.Table.{Table}
use Rattle.sqlite.specs.Edit.{Edit, edit_of, put_all}
use Rattle.sqlite.specs.Rowids.TheVariants.{Given}
use Rattle.sqlite_rules.specs.Calls.{ids_of}
use Rattle.sqlite_schema.specs.declared.schema.Keys.TheVariants.{Enforced}
use Rattle.sqlite_schema.specs.declared.program.Program.{Program}
use Rattle.sqlite.specs.Rows.{Written, Then, Gives, Edited}
use Rattle.ledger_spec.proofs.Lookups.{found_serial}
use Rattle.shop_tables.proofs.Replacing.{replaced}
use Rattle.sqlite.specs.Command.TheVariants.{Update}
use Rattle.sqlite.specs.Listing.{understood}
use Rattle.sqlite.specs.Cast.{cast_all}
use Rattle.paygo_spec.specs.Digits.{digit_count}
use Rattle.sqlite.specs.Does.{Does, Tally}
use Rattle.sqlite.specs.Effect.{Database}
use Rattle.sqlite.specs.State.{State, Executes, mode_of}
use Rattle.sqlite.proofs.Callers.{runs_as, statement_of, one_permutation, one_step}
use Rattle.ledger_spec.specs.declared.Row.{Row}
use Rattle.ledger_spec.specs.Names.{same_name}
use Rattle.ledger_spec.specs.Tables.{has_serial, row_in, rows_with, AreRows}
use Rattle.shop_tables.specs.Schema.{shop_schema, device, device_tree, raised_tree}
use Rattle.shop_tables.specs.Stored.{count, flag, stored_by, device_columns, raised_columns}
use Rattle.shop_tables.specs.declared.statements.TheConstants.{PUT_DEVICE}
use Rattle.shop_tables.proofs.Commands.{same, put_query, put_device_is, put_device_plain}
use Rattle.shop_tables.proofs.Inserting.{cast_number, went, same_value}
use Rattle.shop_tables.proofs.Finding.{hits, found_in, same_text, one_hit}
use Rattle.shop_tables.proofs.Raised.{raised_or_not, agree, and_true}

module _ (row : Row) (raise : Bool) where
  abbrev pub params : Columns
  params = device_columns row ++ flag raise ∷ []

  -- whether the serial is among the raised ones
  abbrev is_raised : List (List ℕ) → Bool
  is_raised serials = list_any (λ s. same_name s row.serial) serials

  -- what the search sees of a row
  abbrev seen : List (List ℕ) → ℕ → Row → Env
  seen serials n x = params ∷ (count n ∷ device_columns x) ∷ (count (cond (is_raised serials) 1 0) ∷ []) ∷ []

  abbrev passes : List (List ℕ) → Row → Bool
  passes serials x = has_serial row.serial x && cond (is_raised serials) raise (cond raise false true)

  module _ (db : Trees) where
    -- the raised rows of the serial, beside a row of a device
    abbrev raised_in : Columns → Columns → List Env
    raised_in r s = matches (overlay db []) (same (col 2 1) (col 0 0) ∷ []) end (params ∷ r ∷ s ∷ [])

    raised_each : (r : Columns) (n : ℕ) (s : List ℕ) → raised_in r (count n ∷ raised_columns s) ≡ cond (same_name s row.serial) ((params ∷ r ∷ (count n ∷ raised_columns s) ∷ []) ∷ []) []
    raised_each r n s =
        let env : Env = params ∷ r ∷ (count n ∷ raised_columns s) ∷ [] in
        ap (λ t. cond (t && true) (env ∷ []) []) (same_text s row.serial) ∙ ap (λ t. cond t (env ∷ []) []) (and_true (same_name s row.serial))

    -- what the search finds at a row
    abbrev find_in : Columns → List Env
    find_in r = matches (overlay db []) put_query.filter (counted 1 (inner raised_tree end) (same (col 2 1) (col 0 0) ∷ []) end) (params ∷ r ∷ [])

    module _ (serials : List (List ℕ)) (raised : db raised_tree ≡ stored_by raised_columns serials) where
      each : (n : ℕ) (x : Row) → find_in (count n ∷ device_columns x) ≡ cond (passes serials x) (seen serials n x ∷ []) []
      each n x =
          let r : Columns = count n ∷ device_columns x in
          let env : Env = seen serials n x in
          let c : min 1 (length (flat_map (raised_in r) (db raised_tree))) ≡ cond (is_raised serials) 1 0 =
          ap (λ l. min 1 (length (flat_map (raised_in r) l))) raised ∙ raised_or_not row.serial (raised_in r) (λ k s. params ∷ r ∷ (count k ∷ raised_columns s) ∷ []) (raised_each r) serials in
          ap (λ k. matches (overlay db []) put_query.filter end (params ∷ r ∷ (count k ∷ []) ∷ [])) c
          ∙ ap (λ t. cond (t && (is_true (binary (Compare Eq Binary) (count (cond (is_raised serials) 1 0)) (flag raise)) && true)) (env ∷ []) []) (same_text x.serial row.serial)
          ∙ ap (λ t. cond (same_name x.serial row.serial && t) (env ∷ []) []) (and_true _ ∙ agree (is_raised serials) raise)

      pub found : (rows : List Row) → db device_tree ≡ stored_by device_columns rows
          → matches (overlay db []) put_query.filter put_query.from (params ∷ []) ≡ reverse (map (λ h. seen serials h.0 h.1) (hits (passes serials) rows))
      found rows devices = ap (flat_map find_in) devices ∙ found_in device_columns find_in (passes serials) (seen serials) each rows

-- a test that asks for one thing more, which holds or doesn't
hits_true : {X : Type 0} (p : X → Bool) (xs : List X) → hits (λ x. p x && true) xs ≡ hits p xs
hits_true p [] = refl
hits_true p (x ∷ xs) = rw (and_true (p x), hits_true p xs) refl

and_false : (a : Bool) → (a && false) ≡ false
and_false true = refl
and_false false = refl

hits_false : {X : Type 0} (p : X → Bool) (xs : List X) → hits (λ x. p x && false) xs ≡ []
hits_false p [] = refl
hits_false p (x ∷ xs) = rw (and_false (p x)) (hits_false p xs)

-- the flags agree
alike : (a b : Bool) → cond a b (cond b false true) ≡ true → a ≡ b
alike true b h = sym h
alike false true h = absurd (let e : false ≡ true = h in cc)
alike false false h = refl

pub nothing_left : {X : Type 0} (xs : List X) → length xs ≡ 0 → xs ≡ []
nothing_left [] h = refl
nothing_left (x ∷ xs) h = absurd (omega (arith, h))

module _ (row : Row) (raise : Bool) where
  -- the row that the search shows at a row with this number
  abbrev put_at : ℕ → Row → Columns
  put_at n x = count n ∷ count n ∷ Text x.serial ∷ drop 1 (device_columns row)

  -- What the search shows, where the serial has one row: it, if its flag agrees.
  shown_one : (db : Trees) (rows : List Row) (serials : List (List ℕ)) (found_rows : List Columns) (n : ℕ) (kept : Row)
      → db device_tree ≡ stored_by device_columns rows → db raised_tree ≡ stored_by raised_columns serials
      → hits (has_serial row.serial) rows ≡ (n, kept) ∷ []
      → IsAnswer put_query (overlay db []) (params row raise) found_rows
      → ((is_raised row raise serials ≡ raise) × (found_rows ≡ put_at n kept ∷ [])) ⊎ (found_rows ≡ [])
  shown_one db rows serials found_rows n kept devices raised hit a =
      let staged : a.staged ≡ reverse (map (λ h. seen row raise serials h.0 h.1) (hits (passes row raise serials) rows)) = a.grouped ∙ found row raise db serials raised rows devices in
      (elim (cond (is_raised row raise serials) raise (cond raise false true)) as (λ b. cond (is_raised row raise serials) raise (cond raise false true) ≡ b
      → a.staged ≡ reverse (map (λ h. seen row raise serials h.0 h.1) (hits (λ x. has_serial row.serial x && b) rows))
      → ((is_raised row raise serials ≡ raise) × (found_rows ≡ put_at n kept ∷ [])) ⊎ (found_rows ≡ [])) [
        | true ↦ λ is staged.
            let one : a.staged ≡ seen row raise serials n kept ∷ [] = staged ∙ rw (hits_true (has_serial row.serial) rows, hit) refl in
            let o : Output = ([], put_at n kept) in
            let all : a.kept ≡ o ∷ [] = a.distinct ∙ ap (map (output put_query)) one in
            let ordered = one_permutation o a.ordered (subst (λ k. IsPermutation k a.ordered) all a.same) in
            inl (alike _ _ is, a.shown ∙ ap (λ xs. page put_query (params row raise) (map (λ (p : Output). p.1) xs)) ordered)
        | false ↦ λ is staged.
            let none : a.staged ≡ [] = staged ∙ rw (hits_false (has_serial row.serial) rows) refl in
            let all : a.kept ≡ [] = a.distinct ∙ ap (map (output put_query)) none in
            let ordered : a.ordered ≡ [] = nothing_left a.ordered (length_permutation a.kept a.ordered a.same ∙ ap length all) in
            inr (a.shown ∙ ap (λ xs. page put_query (params row raise) (map (λ (p : Output). p.1) xs)) ordered)
      ]) refl staged

  pub device_cast : cast_all device.columns (device_columns row) ≡ device_columns row
  device_cast = cast_flag row.closed
    where
      cast_flag : (b : Bool) → cast_all device.columns (drop 0 (Text row.serial ∷ Blob row.key ∷ count row.start ∷ count row.divider ∷ count (digit_count row.form) ∷ count row.price
          ∷ count row.total ∷ count row.paid ∷ count row.rest ∷ count row.last ∷ flag b ∷ [])) ≡ Text row.serial ∷ Blob row.key ∷ count row.start ∷ count row.divider ∷ count (digit_count row.form) ∷ count row.price
          ∷ count row.total ∷ count row.paid ∷ count row.rest ∷ count row.last ∷ flag b ∷ []
      cast_flag true = simp cast_number refl
      cast_flag false = simp cast_number refl

  abbrev edit_by : Trees → List Columns → Edit
  edit_by db all = edit_of db device (ids_of all) Given 1 all

  put_news : (db : Trees) (k : ℕ) (serial : List ℕ) → serial ≡ row.serial → (edit_by db ((count k ∷ count k ∷ Text serial ∷ drop 1 (device_columns row)) ∷ [])).news ≡ (count k ∷ device_columns row) ∷ []
  put_news db k serial same = rw (same, cast_number k, device_cast) refl

  abbrev written_by : Trees → List Columns → Written → Type 0
  written_by db all done =
      Then (Edited shop_schema Enforced db (edit_by db all)) (λ next. Gives (let r : Written = record { trees = next; rows = (edit_by db all).news; last = None } in r)) (Ok done)

  -- The statement put the row in the place of the one with its serial, whose limit is the same.
  pub put_device : (old new : State) (rows : List Row) (serials : List (List ℕ)) (kept : Row) (n : ℕ) → old.now.schema ≡ shop_schema
      → old.now.trees device_tree ≡ stored_by device_columns rows → old.now.trees raised_tree ≡ stored_by raised_columns serials
      → AreRows rows → row_in rows row.serial ≡ Some kept → Executes PUT_DEVICE.now (params row raise) old new (Ok n) → n ≡ 1
      → (is_raised row raise serials ≡ raise) × (new.now.schema ≡ shop_schema) × (new.now.trees device_tree ≡ stored_by device_columns (rows_with row rows))
      × AllByRecursion (λ t. t.tree ≢ device_tree → new.now.trees t.tree ≡ old.now.trees t.tree) shop_schema.tables
  put_device old new rows serials kept n has devices raised are is h one =
      let q : Program = record { lets = []; body = put_query } in
      let given = params row raise in
      let w = runs_as PUT_DEVICE.now given old new shop_schema has (Update 0 q) put_device_is put_device_plain n h in
      let text = statement_of PUT_DEVICE.now (understood shop_schema PUT_DEVICE.now) in
      let changed = subst (λ s. Does old.step_limit (mode_of old) given (record old.now { schema = s }) text None (Update 0 q) (Ok (w.tally, new.now))) has w.changed in
      let done = went changed in
      let said = same_value (went (went done.2).2).2 in
      let searched = went done.1 in
      let hit = one_hit rows row.serial kept are is in
      (elim (shown_one old.now.trees rows serials searched.0 hit.0 kept devices raised hit.1 (searched.1.answer Null)) [
        | inl both ↦
            let wrote = went (subst (λ all. written_by old.now.trees all done.0) both.1 searched.2) in
            let put = same_value wrote.2 in
            let serial : kept.serial ≡ row.serial = found_serial rows row.serial kept is in
            let new_row : Columns = count hit.0 ∷ device_columns row in
            let news : (edit_by old.now.trees (put_at hit.0 kept ∷ [])).news ≡ new_row ∷ [] = put_news old.now.trees hit.0 kept.serial serial in
            let applied = one_step shop_schema Enforced old.now.trees wrote.0 (edit_by old.now.trees (put_at hit.0 kept ∷ [])) refl wrote.1 in
            let trees : new.now.trees ≡ wrote.0 = ap (λ (p : Tally × Database). p.1.trees) said ∙ ap (λ (it : Written). it.trees) put in (
              both.0,
              ap (λ (p : Tally × Database). p.1.schema) said,
              ap (λ (t : Trees). t device_tree) trees ∙ (applied.rows ∙ (ap (put_all (without_rowid (pos hit.0) (old.now.trees device_tree))) news
                  ∙ (ap (λ l. put_row new_row (without_rowid (pos hit.0) l)) devices ∙ replaced device_columns (has_serial row.serial) row rows hit.0 kept hit.1))),
              subst (λ (t : Trees). AllByRecursion (λ (other : Table). other.tree ≢ device_tree → t other.tree ≡ old.now.trees other.tree) shop_schema.tables) (sym trees) applied.tables,
            )
        | inr none ↦
            let wrote = went (subst (λ all. written_by old.now.trees all done.0) none searched.2) in
            let zero : n ≡ 0 = w.counted ∙ (ap (λ (p : Tally × Database). unwrap_or p.0.rows 0) said ∙ ap (λ (it : Written). length it.rows) (same_value wrote.2)) in
            absurd (omega (arith, zero, one))
      ])
