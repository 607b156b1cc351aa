-- What a search in the rows of a table finds.
use Rattle.std.proofs.Common.{length, ◌≡◌, ℕ, suc, List, [], ◌∷◌, ◌++◌, map, Bool, true, false, cond, Some, None, refl, sym, ap, ◌∙◌, arith, append-nil}
use Rattle.std.specs.List.{flat_map}
use Rattle.std.specs.Prelude.{reverse}
use Rattle.std.proofs.lemmas.List.Concat.{flat_map-append}
use Rattle.std.proofs.lemmas.Grind.{common_steps}
use Rattle.std.proofs.lemmas.Map.Text.{is_eq-slice_cmp}
use Rattle.sqlite_value.proofs.OrderLemmas.{value_cmp-Text}
use Rattle.sqlite.specs.declared.types.Value.TheVariants.{Text}
use Rattle.sqlite.specs.Order.{Row as Columns}
use Rattle.sqlite.specs.Ops.{binary, is_true, from_truth}
use Rattle.sqlite_sql.specs.declared.ops.BinaryOp.TheVariants.{Compare}
use Rattle.sqlite_sql.specs.declared.ops.CompareOp.TheVariants.{Eq}
use Rattle.sqlite.specs.Collation.TheVariants.{Binary}
use Rattle.ledger_spec.specs.declared.Row.{Row}
use Rattle.ledger_spec.specs.Names.{same_name}
use Rattle.ledger_spec.specs.Tables.{has_serial, row_in, AreRows}
use Rattle.ledger_spec.proofs.NameLemmas.{same_is}
use Rattle.shop_tables.specs.Stored.{count, stored_by}

pub truth_of : (b : Bool) → is_true (from_truth (Some b)) ≡ b
truth_of true = refl
truth_of false = refl

-- two texts are equal exactly where the names are one
pub same_text : (a b : List ℕ) → is_true (binary (Compare Eq Binary) (Text a) (Text b)) ≡ same_name a b
unfolding binary same_name
same_text a b = truth_of _ ∙ rw (value_cmp-Text a b) (is_eq-slice_cmp a b)

-- the elements that pass the test, with their numbers, the newest first
abbrev pub hits : {X : Type 0} → (X → Bool) → List X → List (ℕ × X)
hits test [] = []
hits test (x ∷ xs) = cond (test x) ((suc (length xs), x) ∷ hits test xs) (hits test xs)

module _ {X : Type 0} {A : Type 0} (columns : X → Columns) (find_in : Columns → List A) (test : X → Bool) (shown : ℕ → X → A)
    (each : (n : ℕ) (x : X) → find_in (count n ∷ columns x) ≡ cond (test x) (shown n x ∷ []) []) where
  abbrev shows : ℕ × X → A
  shows h = shown h.0 h.1

  joined : (x : X) (xs : List X) (t : Bool) → reverse (map shows (hits test xs)) ++ cond t (shown (suc (length xs)) x ∷ []) [] ≡ reverse (map shows (cond t ((suc (length xs), x) ∷ hits test xs) (hits test xs)))
  joined x xs true = grind (arith, common_steps)
  joined x xs false = append-nil _

  -- what is found in the rows is that of those which pass the test
  pub found_in : (xs : List X) → flat_map find_in (stored_by columns xs) ≡ reverse (map shows (hits test xs))
  found_in [] = refl
  found_in (x ∷ xs) =
      flat_map-append find_in (stored_by columns xs) _ ∙ rw (found_in xs, append-nil (find_in (count (suc (length xs)) ∷ columns x)), each (suc (length xs)) x) (joined x xs (test x))

-- no row has the serial
pub none_hit : (rows : List Row) (serial : List ℕ) → row_in rows serial ≡ None → hits (has_serial serial) rows ≡ []
none_hit [] serial none = refl
none_hit (row ∷ rows) serial none = (elim (same_name row.serial serial) as (λ t. same_name row.serial serial ≡ t → cond t (Some row) (row_in rows serial) ≡ None → cond t ((suc (length rows), row) ∷ hits (has_serial serial) rows) (hits (has_serial serial) rows) ≡ []) [
  | true ↦ λ same bad. absurd (let e : Some row ≡ None = bad in cc)
  | false ↦ λ other none. none_hit rows serial none
]) refl none

-- one row has the serial
pub one_hit : (rows : List Row) (serial : List ℕ) (row : Row) → AreRows rows → row_in rows serial ≡ Some row → (n : ℕ) × (hits (has_serial serial) rows ≡ (n, row) ∷ [])
one_hit [] serial row are is = absurd (let e : None ≡ Some row = is in cc)
one_hit (first ∷ rows) serial row are is = (elim (same_name first.serial serial) as (λ t. same_name first.serial serial ≡ t → cond t (Some first) (row_in rows serial) ≡ Some row
    → (n : ℕ) × (cond t ((suc (length rows), first) ∷ hits (has_serial serial) rows) (hits (has_serial serial) rows) ≡ (n, row) ∷ [])) [
      | true ↦ λ same found.
          let one : first ≡ row = cc in
          let others : row_in rows serial ≡ None = ap (row_in rows) (sym (same_is first.serial serial same)) ∙ are.1 in
          (suc (length rows), rw (none_hit rows serial others, one) refl)
      | false ↦ λ other found. one_hit rows serial row are.2 found
    ]) refl is
