-- What is found in the tables after a row was put in the place of another.
use Rattle.std.proofs.Common.{◌≡◌, ℕ, suc, ◌+◌, ◌<◌, List, [], ◌∷◌, length, drop, get_or, Bool, true, false, Some, None, cond, refl, sym, ap, ◌∙◌, add-one, drop-cons}
use Rattle.std.specs.Prelude.{find}
use Rattle.ledger_spec.specs.declared.Row.{Row}
use Rattle.ledger_spec.specs.Names.{same_name}
use Rattle.ledger_spec.specs.Tables.{has_serial, row_in, rows_with}
use Rattle.ledger_spec.proofs.NameLemmas.{same_is, self_same}

-- what is found is the row of the serial
pub found_serial : (rows : List Row) (serial : List ℕ) (row : Row) → row_in rows serial ≡ Some row → row.serial ≡ serial
found_serial [] serial row is = cc
found_serial (r ∷ rows) serial row is = (elim (same_name r.serial serial) as (λ t. same_name r.serial serial ≡ t → cond t (Some r) (row_in rows serial) ≡ Some row → row.serial ≡ serial) [
  | true ↦ λ same found. let one : r ≡ row = cc in ap (λ (x : Row). x.serial) (sym one) ∙ same_is r.serial serial same
  | false ↦ λ same found. found_serial rows serial row found
]) refl is

module _ (row : Row) where
  -- the row that stands in a place afterwards
  abbrev pub put_row : Row → Row
  put_row old = cond (has_serial row.serial old) row old

  pub put_serial : (old : Row) → (put_row old).serial ≡ old.serial
  put_serial old = (elim (same_name old.serial row.serial) as (λ t. same_name old.serial row.serial ≡ t → (cond t row old).serial ≡ old.serial) [
    | true ↦ λ same. sym (same_is old.serial row.serial same)
    | false ↦ λ same. refl
  ]) refl

  -- another serial has the row that it had
  pub row_other : (rows : List Row) (serial : List ℕ) → same_name row.serial serial ≡ false → row_in (rows_with row rows) serial ≡ row_in rows serial
  row_other [] serial other = refl
  row_other (old ∷ rows) serial other = (elim (same_name old.serial row.serial) as (λ t. same_name old.serial row.serial ≡ t → cond (same_name (cond t row old).serial serial) (Some (cond t row old)) (row_in (rows_with row rows) serial) ≡ cond (same_name old.serial serial) (Some old) (row_in rows serial)) [
    | true ↦ λ same. let one : old.serial ≡ row.serial = same_is old.serial row.serial same in rw (one, other) (row_other rows serial other)
    | false ↦ λ same. ap (λ r. cond (same_name old.serial serial) (Some old) r) (row_other rows serial other)
  ]) refl

  -- its own serial has this row, where it had one
  pub row_same : (rows : List Row) (old : Row) → row_in rows row.serial ≡ Some old → row_in (rows_with row rows) row.serial ≡ Some row
  row_same [] old is = cc
  row_same (r ∷ rows) old is = (elim (same_name r.serial row.serial) as (λ t. same_name r.serial row.serial ≡ t → cond t (Some r) (row_in rows row.serial) ≡ Some old → cond (same_name (cond t row r).serial row.serial) (Some (cond t row r)) (row_in (rows_with row rows) row.serial) ≡ Some row) [
    | true ↦ λ same found. rw (self_same row.serial) refl
    | false ↦ λ same found. rw same (row_same rows old found)
  ]) refl is

  -- a serial that had no row has none
  pub row_none : (rows : List Row) (serial : List ℕ) → row_in rows serial ≡ None → row_in (rows_with row rows) serial ≡ None
  row_none [] serial is = refl
  row_none (old ∷ rows) serial is = (elim (same_name old.serial serial) as (λ t. same_name old.serial serial ≡ t → cond t (Some old) (row_in rows serial) ≡ None → row_in (rows_with row (old ∷ rows)) serial ≡ None) [
    | true ↦ λ same none. let bad : Some old ≡ None = none in cc
    | false ↦ λ same none. rw (put_serial old, same) (row_none rows serial none)
  ]) refl is

-- a search from the place i on that finds its element there, and one that goes on
module _ {X : Type 0} (p : X → Bool) (xs : List X) (i : ℕ) (x : X) (inside : i < length xs) (here : x ≡ get_or xs i x) where
  from_here : find p (drop i xs) ≡ cond (p x) (Some x) (find p (drop (i + 1) xs))
  from_here = ap (λ l. find p l) (drop-cons xs i x inside) ∙ ap (λ y. cond (p y) (Some y) (find p (drop (suc i) xs))) (sym here) ∙ ap (λ k. cond (p x) (Some x) (find p (drop k xs))) (sym (add-one i))

  pub find_here : p x ≡ true → find p (drop i xs) ≡ Some x
  find_here passes = from_here ∙ ap (λ t. cond t (Some x) (find p (drop (i + 1) xs))) passes

  pub find_later : p x ≡ false → find p (drop i xs) ≡ find p (drop (i + 1) xs)
  find_later fails = from_here ∙ ap (λ t. cond t (Some x) (find p (drop (i + 1) xs))) fails

-- the row that is found for a serial is found for its own
pub row_found_again : (rows : List Row) (serial : List ℕ) (row : Row) → row_in rows serial ≡ Some row → row_in rows row.serial ≡ Some row
row_found_again rows serial row is = ap (λ s. row_in rows s) (found_serial rows serial row is) ∙ is
