-- What the statement that lifts a row's last count makes of the shop's tables.
use Rattle.std.proofs.Common.{length, ◌≡◌, ◌≢◌, ◌⊎◌, inl, inr, ℕ, suc, pos, negsuc, List, [], ◌∷◌, map, Bool, true, false, cond, nat_lt, ◌&&◌, Some, None, Ok, refl, sym, ap, subst, ◌∙◌, arith, unwrap_or}
use Rattle.std.specs.List.{flat_map, AllByRecursion}
use Rattle.std.specs.Prelude.{reverse}
use Rattle.std.specs.List.Sorted.{IsPermutation}
use Rattle.std.proofs.lemmas.Bool.Decides.{nat_tests}
use Rattle.std.proofs.lemmas.List.Sorted.{length_permutation}
use Rattle.sqlite_value.proofs.OrderLemmas.{value_cmp-Int}
use Rattle.sqlite.specs.declared.types.Value.TheVariants.{Null, Int}
use Rattle.sqlite.specs.Order.{Row as Columns}
use Rattle.sqlite.specs.Ops.{binary, unary, is_true}
use Rattle.sqlite.specs.Term.{Env, lit, col, op1, op2}
use Rattle.sqlite_sql.specs.declared.ops.BinaryOp.TheVariants.{Compare}
use Rattle.sqlite_sql.specs.declared.ops.UnaryOp.TheVariants.{ToNumeric}
use Rattle.sqlite_sql.specs.declared.ops.CompareOp.TheVariants.{Lt}
use Rattle.sqlite.specs.Collation.TheVariants.{Binary}
use Rattle.sqlite.specs.Query.{Query, IsAnswer, matches, output, page, Output, inner, end}
use Rattle.sqlite.specs.Program.{overlay}
use Rattle.sqlite.specs.Tree.{Trees, put_row, without_rowid}
use Rattle.sqlite.specs.Table.{Table}
use Rattle.sqlite.specs.Edit.{Edit, edit_of, put_all}
use Rattle.sqlite.specs.Rowids.TheVariants.{Given}
use Rattle.sqlite_rules.specs.Calls.{ids_of}
use Rattle.sqlite_schema.specs.declared.schema.Keys.TheVariants.{Enforced}
use Rattle.sqlite_schema.specs.declared.program.Program.{Program}
use Rattle.sqlite_tied.specs.Compute.{everything}
use Rattle.sqlite.specs.Rows.{Written, Then, Gives, Edited}
use Rattle.sqlite.specs.Command.TheVariants.{Update}
use Rattle.sqlite.specs.Listing.{understood}
use Rattle.sqlite.specs.Does.{Does, Tally}
use Rattle.sqlite.specs.Effect.{Database}
use Rattle.sqlite.specs.State.{State, Executes, mode_of}
use Rattle.sqlite.proofs.Callers.{IsPlain, command_of, runs_as, statement_of, one_permutation, one_step}
use Rattle.ledger_spec.specs.declared.Row.{Row}
use Rattle.ledger_spec.specs.Names.{same_name}
use Rattle.ledger_spec.specs.Tables.{has_serial, row_in, rows_with, lifted_row, AreRows}
use Rattle.shop_tables.specs.Schema.{shop_schema, device, device_tree}
use Rattle.shop_tables.specs.Stored.{count, stored_by, device_columns, lifted_columns}
use Rattle.shop_tables.specs.declared.statements.TheConstants.{SKIP}
use Rattle.shop_tables.proofs.Commands.{same}
use Rattle.shop_tables.proofs.Inserting.{cast_number, went, same_value}
use Rattle.shop_tables.proofs.Finding.{hits, found_in, same_text, truth_of, one_hit}
use Rattle.shop_tables.proofs.Raised.{and_true}
use Rattle.shop_tables.proofs.Replacing.{replaced}
use Rattle.shop_tables.proofs.Putting.{device_cast, nothing_left}

abbrev lift_query : Query
lift_query = record {
  from = inner device_tree end;
  filter = same (col 1 1) (col 0 0) ∷ op2 (Compare Lt Binary) (col 1 10) (op1 ToNumeric (col 0 1)) ∷ [];
  group = None;
  project = col 1 0 ∷ col 1 0 ∷ col 1 1 ∷ col 1 2 ∷ col 1 3 ∷ col 1 4 ∷ col 1 5 ∷ col 1 6 ∷ col 1 7 ∷ col 1 8 ∷ col 1 9 ∷ col 0 1 ∷ col 1 11 ∷ [];
  distinct = false;
  collations = [];
  order = [];
  limit = lit (Int (negsuc 0));
  offset = lit (Int (pos 0));
}

lift_is : command_of (understood shop_schema SKIP.now) ≡ Update 0 (record { lets = []; body = lift_query })
unfolding understood everything
lift_is = refl

lift_plain : IsPlain (understood shop_schema SKIP.now)
unfolding understood everything
lift_plain = (refl, refl)

-- a comparison of two numbers
lower : (a b : ℕ) → is_true (binary (Compare Lt Binary) (count a) (count b)) ≡ nat_lt a b
unfolding binary
lower a b = truth_of _ ∙ rw (value_cmp-Int (pos a) (pos b)) grind (arith, nat_tests)

-- a number is one already
number_is : (n : ℕ) → unary ToNumeric (count n) ≡ count n
unfolding unary
number_is n = refl

-- what passes both tests, where one element passes the first
module _ {X : Type 0} (p q : X → Bool) where
  no_hits : (xs : List X) → hits p xs ≡ [] → hits (λ x. p x && q x) xs ≡ []
  no_hits [] none = refl
  no_hits (x ∷ xs) none = (elim (p x) as (λ t. cond t ((suc (length xs), x) ∷ hits p xs) (hits p xs) ≡ [] → cond (t && q x) ((suc (length xs), x) ∷ hits (λ x. p x && q x) xs) (hits (λ x. p x && q x) xs) ≡ []) [
    | true ↦ λ bad. absurd (let e : (suc (length xs), x) ∷ hits p xs ≡ [] = bad in cc)
    | false ↦ λ none. no_hits xs none
  ]) none

  hit_of_both : (xs : List X) (n : ℕ) (one : X) → hits p xs ≡ (n, one) ∷ [] → hits (λ x. p x && q x) xs ≡ cond (q one) ((n, one) ∷ []) []
  hit_of_both [] n one is = absurd (let e : [] ≡ (n, one) ∷ [] = is in cc)
  hit_of_both (x ∷ xs) n one is = (elim (p x) as (λ t. cond t ((suc (length xs), x) ∷ hits p xs) (hits p xs) ≡ (n, one) ∷ []
      → cond (t && q x) ((suc (length xs), x) ∷ hits (λ x. p x && q x) xs) (hits (λ x. p x && q x) xs) ≡ cond (q one) ((n, one) ∷ []) []) [
        | true ↦ λ is.
            let first : ◌≡◌ {A = ℕ × X} (suc (length xs), x) (n, one) = cc in
            let number : suc (length xs) ≡ n = ap (λ p. p.0) first in
            let same : x ≡ one = ap (λ p. p.1) first in
            let none : hits p xs ≡ [] = cc in
            rw (no_hits xs none, number, same) refl
        | false ↦ λ is. hit_of_both xs n one is
      ]) is

module _ (kept : Row) (to : ℕ) where
  abbrev given : Columns
  given = lifted_columns kept.serial to

  -- what the search sees of a row
  abbrev seen : ℕ → Row → Env
  seen n x = given ∷ (count n ∷ device_columns x) ∷ []

  abbrev passes : Row → Bool
  passes x = has_serial kept.serial x && nat_lt x.last to

  module _ (db : Trees) where
    -- what the search finds at a row
    abbrev find_in : Columns → List Env
    find_in r = matches (overlay db []) lift_query.filter end (given ∷ r ∷ [])

    each : (n : ℕ) (x : Row) → find_in (count n ∷ device_columns x) ≡ cond (passes x) (seen n x ∷ []) []
    each n x =
        let env : Env = seen n x in
        ap (λ t. cond (t && (is_true (binary (Compare Lt Binary) (count x.last) (unary ToNumeric (count to))) && true)) (env ∷ []) []) (same_text x.serial kept.serial)
        ∙ ap (λ t. cond (same_name x.serial kept.serial && t) (env ∷ []) []) (and_true _ ∙ (ap (λ v. is_true (binary (Compare Lt Binary) (count x.last) v)) (number_is to) ∙ lower x.last to))

    found : (rows : List Row) → db device_tree ≡ stored_by device_columns rows
        → matches (overlay db []) lift_query.filter lift_query.from (given ∷ []) ≡ reverse (map (λ h. seen h.0 h.1) (hits passes rows))
    found rows devices = ap (flat_map find_in) devices ∙ found_in device_columns find_in passes seen each rows

  -- the row that the search shows at a row with this number
  abbrev lift_at : ℕ → Columns
  lift_at n = count n ∷ count n ∷ device_columns (lifted_row to kept)

  -- What the search shows, where the serial has one row: it with the count lifted, if its last count is lower.
  shown_one : (db : Trees) (rows : List Row) (found_rows : List Columns) (n : ℕ) → db device_tree ≡ stored_by device_columns rows → hits (has_serial kept.serial) rows ≡ (n, kept) ∷ []
      → IsAnswer lift_query (overlay db []) given found_rows → (found_rows ≡ lift_at n ∷ []) ⊎ (found_rows ≡ [])
  shown_one db rows found_rows n devices hit a =
      let staged : a.staged ≡ reverse (map (λ (h : ℕ × Row). seen h.0 h.1) (cond (nat_lt kept.last to) ((n, kept) ∷ []) [])) =
      a.grouped ∙ (found db rows devices ∙ ap (λ (l : List (ℕ × Row)). reverse (map (λ (h : ℕ × Row). seen h.0 h.1) l)) (hit_of_both (has_serial kept.serial) (λ x. nat_lt x.last to) rows n kept hit)) in
      (elim (nat_lt kept.last to) as (λ b. a.staged ≡ reverse (map (λ (h : ℕ × Row). seen h.0 h.1) (cond b ((n, kept) ∷ []) [])) → (found_rows ≡ lift_at n ∷ []) ⊎ (found_rows ≡ [])) [
        | true ↦ λ one.
            let o : Output = ([], lift_at n) in
            let all : a.kept ≡ o ∷ [] = a.distinct ∙ ap (map (output lift_query)) one in
            let ordered = one_permutation o a.ordered (subst (λ k. IsPermutation k a.ordered) all a.same) in
            inl (a.shown ∙ ap (λ xs. page lift_query given (map (λ (p : Output). p.1) xs)) ordered)
        | false ↦ λ none.
            let all : a.kept ≡ [] = a.distinct ∙ ap (map (output lift_query)) none in
            let ordered : a.ordered ≡ [] = nothing_left a.ordered (length_permutation a.kept a.ordered a.same ∙ ap length all) in
            inr (a.shown ∙ ap (λ xs. page lift_query given (map (λ (p : Output). p.1) xs)) ordered)
      ]) staged

  abbrev edit_by : Trees → List Columns → Edit
  edit_by db all = edit_of db device (ids_of all) Given 1 all

  lift_news : (db : Trees) (k : ℕ) → (edit_by db (lift_at k ∷ [])).news ≡ (count k ∷ device_columns (lifted_row to kept)) ∷ []
  lift_news db k = rw (cast_number k, device_cast (lifted_row to kept) false) refl

  abbrev written_by : Trees → List Columns → Written → Type 0
  written_by db all done =
      Then (Edited shop_schema Enforced db (edit_by db all)) (λ next. Gives (let r : Written = record { trees = next; rows = (edit_by db all).news; last = None } in r)) (Ok done)

  -- The statement lifted the last count of the row of the serial.
  pub lift_device : (old new : State) (rows : List Row) (n : ℕ) → old.now.schema ≡ shop_schema → old.now.trees device_tree ≡ stored_by device_columns rows
      → AreRows rows → row_in rows kept.serial ≡ Some kept → Executes SKIP.now given old new (Ok n) → n ≡ 1
      → (new.now.schema ≡ shop_schema) × (new.now.trees device_tree ≡ stored_by device_columns (rows_with (lifted_row to kept) rows))
      × AllByRecursion (λ t. t.tree ≢ device_tree → new.now.trees t.tree ≡ old.now.trees t.tree) shop_schema.tables
  lift_device old new rows n has devices are is h one =
      let q : Program = record { lets = []; body = lift_query } in
      let w = runs_as SKIP.now given old new shop_schema has (Update 0 q) lift_is lift_plain n h in
      let text = statement_of SKIP.now (understood shop_schema SKIP.now) in
      let changed = subst (λ s. Does old.step_limit (mode_of old) given (record old.now { schema = s }) text None (Update 0 q) (Ok (w.tally, new.now))) has w.changed in
      let done = went changed in
      let said = same_value (went (went done.2).2).2 in
      let searched = went done.1 in
      let hit = one_hit rows kept.serial kept are is in
      (elim (shown_one old.now.trees rows searched.0 hit.0 devices hit.1 (searched.1.answer Null)) [
        | inl both ↦
            let wrote = went (subst (λ all. written_by old.now.trees all done.0) both searched.2) in
            let put = same_value wrote.2 in
            let new_row : Columns = count hit.0 ∷ device_columns (lifted_row to kept) in
            let news : (edit_by old.now.trees (lift_at hit.0 ∷ [])).news ≡ new_row ∷ [] = lift_news old.now.trees hit.0 in
            let applied = one_step shop_schema Enforced old.now.trees wrote.0 (edit_by old.now.trees (lift_at hit.0 ∷ [])) refl wrote.1 in
            let trees : new.now.trees ≡ wrote.0 = ap (λ (p : Tally × Database). p.1.trees) said ∙ ap (λ (it : Written). it.trees) put in (
              ap (λ (p : Tally × Database). p.1.schema) said,
              ap (λ (t : Trees). t device_tree) trees ∙ (applied.rows ∙ (ap (put_all (without_rowid (pos hit.0) (old.now.trees device_tree))) news
                  ∙ (ap (λ l. put_row new_row (without_rowid (pos hit.0) l)) devices ∙ replaced device_columns (has_serial kept.serial) (lifted_row to kept) rows hit.0 kept hit.1))),
              subst (λ (t : Trees). AllByRecursion (λ (other : Table). other.tree ≢ device_tree → t other.tree ≡ old.now.trees other.tree) shop_schema.tables) (sym trees) applied.tables,
            )
        | inr none ↦
            let wrote = went (subst (λ all. written_by old.now.trees all done.0) none searched.2) in
            let zero : n ≡ 0 = w.counted ∙ (ap (λ (p : Tally × Database). unwrap_or p.0.rows 0) said ∙ ap (λ (it : Written). length it.rows) (same_value wrote.2)) in
            absurd (omega (arith, zero, one))
      ])
