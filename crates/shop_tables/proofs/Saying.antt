-- What the statement that asks for a row shows, by the tables that are told.
use Rattle.std.proofs.Common.{◌≡◌, ℕ, List, [], ◌∷◌, ◌++◌, Bool, true, false, cond, not, ◌==◌, Some, None, Option, refl, sym, ap, subst, ◌∙◌}
use Rattle.sqlite.specs.Order.{Row as Columns}
use Rattle.sqlite.specs.State.{State, Shown}
use Rattle.paygo_spec.specs.declared.TheConstants.{GREAT, LAST}
use Rattle.ledger_spec.specs.declared.Row.{Row}
use Rattle.ledger_spec.specs.Names.{same_name}
use Rattle.ledger_spec.specs.Tables.{Tables, Kept, row_in, row_of}
use Rattle.shop_tables.specs.Stored.{count, flag, AreLimited, limit_by, device_columns, row_columns}
use Rattle.shop_tables.specs.Telling.{Tells}
use Rattle.shop_tables.specs.declared.statements.TheConstants.{DEVICE}
use Rattle.shop_tables.proofs.Asking.{told_columns, is_among, given, asked, shown_none, shown_row}

-- the limits of the rows are those that the serials of the raised ones say
pub limited : (serials : List (List ℕ)) (rows : List Row) (serial : List ℕ) (row : Row) → AreLimited serials rows → row_in rows serial ≡ Some row → row.limit ≡ limit_by serials row.serial
limited serials [] serial row are is = absurd (let bad : None ≡ Some row = is in cc)
limited serials (first ∷ rows) serial row are is = (elim (same_name first.serial serial) as (λ t. ◌≡◌ {A = Option Row} (cond t (Some first) (row_in rows serial)) (Some row) → row.limit ≡ limit_by serials row.serial) [
  | true ↦ λ e. subst (λ (r : Row). r.limit ≡ limit_by serials r.serial) (let same : first ≡ row = cc in same) are.0
  | false ↦ λ e. limited serials rows serial row are.1 e
]) is

flag_is : (raised : Bool) → count (cond raised 1 0) ≡ flag (not (cond raised GREAT LAST == LAST))
flag_is true = refl
flag_is false = refl

-- a row is shown as its columns, and whether its limit was raised
pub told_is : (serials : List (List ℕ)) (row : Row) → row.limit ≡ limit_by serials row.serial → told_columns serials row ≡ row_columns row
told_is serials row limit = ap (λ f. device_columns row ++ f ∷ []) (flag_is (is_among serials row.serial) ∙ ap (λ n. flag (not (n == LAST))) (sym limit))

module _ (old new : State) (serial : List ℕ) (tables : Tables) (shown : List Columns) (tells : Tells old tables) (h : Shown DEVICE.now (given serial) old new shown) where
  -- nothing, where no row has the serial
  pub device_none : row_of tables serial ≡ None → shown ≡ []
  device_none none = shown_none serial old.now.trees tells.hold.serials tells.hold.raised tables.rows shown tells.hold.rows none (asked serial old new shown tells.schema h)

  -- or its row
  pub device_one : Kept tables → (row : Row) → row_of tables serial ≡ Some row → shown ≡ row_columns row ∷ []
  device_one kept row is =
      shown_row serial old.now.trees tells.hold.serials tells.hold.raised tables.rows shown row tells.hold.rows kept.rows is (asked serial old new shown tells.schema h)
      ∙ ap (λ r. r ∷ []) (told_is tells.hold.serials row (limited tells.hold.serials tables.rows serial row tells.hold.limits is))
