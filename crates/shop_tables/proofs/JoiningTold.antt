-- The order and the row that are shown are those of the tables.
use Rattle.std.proofs.Common.{◌≡◌, List, ℕ, [], ◌∷◌, ◌++◌, true, false, cond, None, Some, refl, sym, ap, ◌∙◌}
use Rattle.sqlite.specs.Order.{Row as Columns}
use Rattle.sqlite.specs.State.{State, Shown}
use Rattle.ledger_spec.specs.declared.Row.{Row}
use Rattle.ledger_spec.specs.declared.Order.{Order}
use Rattle.ledger_spec.specs.Names.{same_name}
use Rattle.ledger_spec.specs.Tables.{Tables, Kept, has_id, order_in, order_of, row_of}
use Rattle.ledger_spec.proofs.Lookups.{found_serial}
use Rattle.shop_tables.specs.Stored.{count, limit_by, order_columns, device_columns, row_columns}
use Rattle.shop_tables.specs.Telling.{Tells}
use Rattle.shop_tables.specs.declared.statements.TheConstants.{ORDER}
use Rattle.shop_tables.proofs.Asking.{is_among, given}
use Rattle.shop_tables.proofs.Saying.{limited, told_is}
use Rattle.shop_tables.proofs.Joining.{shown_no_order, shown_order, asked_order}

-- what is found has the id
pub found_id : (orders : List Order) (id : List ℕ) (order : Order) → order_in orders id ≡ Some order → has_id id order ≡ true
found_id [] id order is = absurd (let e : None ≡ Some order = is in cc)
found_id (first ∷ orders) id order is = (elim (same_name first.id id) as (λ t. same_name first.id id ≡ t → cond t (Some first) (order_in orders id) ≡ Some order → has_id id order ≡ true) [
  | true ↦ λ same found. let one : first ≡ order = cc in ap (λ (o : Order). has_id id o) (sym one) ∙ same
  | false ↦ λ other found. found_id orders id order found
]) refl is

module _ (old new : State) (id : List ℕ) (tables : Tables) (shown : List Columns) (tells : Tells old tables) (h : Shown ORDER.now (given id) old new shown) where
  -- No order has the id.
  pub no_order_told : order_of tables id ≡ None → shown ≡ []
  no_order_told none =
      shown_no_order id old.now.trees tells.hold.serials tells.hold.raised tables.rows tells.hold.rows tables.orders tells.hold.orders shown (asked_order id old new shown tells.schema h) none

  -- The order with the id is shown, and behind it the row of its serial.
  pub order_told : Kept tables → (order : Order) → order_of tables id ≡ Some order → (row : Row) → row_of tables order.serial ≡ Some row → shown ≡ (order_columns order ++ row_columns row) ∷ []
  order_told kept order found row has =
      let serials = tells.hold.serials in
      let serial : row.serial ≡ order.serial = found_serial tables.rows order.serial row has in
      let limit : row.limit ≡ limit_by serials row.serial = limited serials tables.rows order.serial row tells.hold.limits has in
      shown_order id old.now.trees serials tells.hold.raised tables.rows tells.hold.rows tables.orders tells.hold.orders shown (asked_order id old new shown tells.schema h)
      order row kept.rows kept.orders (found_id tables.orders id order found) found has
      ∙ ap (λ s. (order_columns order ++ (device_columns row ++ count (cond (is_among serials s) 1 0) ∷ [])) ∷ []) (sym serial)
      ∙ ap (λ c. (order_columns order ++ c) ∷ []) (told_is serials row limit)
