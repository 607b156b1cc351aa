-- What is answered of the columns that were found is what the tables tell.
use Rattle.std.proofs.Common.{◌≡◌, ◌↔◌, ◌++◌, List, ℕ, [], ◌∷◌, map, true, Option, Some, None, Result, Ok, Err, IfOk, IfSome, refl, sym, ap, subst, ◌∙◌}
use Rattle.std.specs.Option.{option_map}
use Rattle.sqlite.specs.Order.{Row as Columns}
use Rattle.paygo_spec.specs.declared.Form.{Form}
use Rattle.ledger_spec.specs.declared.Row.{Row}
use Rattle.ledger_spec.specs.declared.Order.{Order}
use Rattle.ledger_spec.specs.Tables.{Tables, Kept, row_of, order_of, form_in, is_limit}
use Rattle.ledger_spec.specs.Keeper.{IsOrderOf}
use Rattle.ledger_spec.proofs.KeptLemmas.{row_kept, order_kept, some_is}
use Rattle.table_columns.specs.Said.{row_said, order_said}
use Rattle.table_columns.specs.Forms.{form_said}
use Rattle.shop_tables.specs.Stored.{order_columns, row_columns}
use Rattle.shop_tables.proofs.Decoding.{row_decoded, order_decoded, form_decoded}

one_of : {X : Type 0} (x y : X) → x ∷ [] ≡ y ∷ [] → x ≡ y
one_of x y e = cc

-- what the columns of an order say, those of a row behind them don't change
said_in_front : (order : Order) (row : Row) → order_said (order_columns order ++ row_columns row) ≡ order_said (order_columns order)
unfolding order_said
said_in_front order row = refl

module _ {E : Type 0} (tables : Tables) (kept : Kept tables) (items : List Columns) where
  -- the row of a serial
  pub device_told : (serial : List ℕ) (result : Result (Option Row) E) → (row_of tables serial ≡ None → items ≡ []) → ((row : Row) → row_of tables serial ≡ Some row → items ≡ row_columns row ∷ [])
      → ((result ≡ Ok None) ↔ (items ≡ [])) → IfOk result (λ answer. IfSome answer (λ row. map (row_said 0) items ≡ Some row ∷ [])) → IfOk result (λ found. found ≡ row_of tables serial)
  device_told serial (Err e) none one empty said = tt
  device_told serial (Ok answer) none one empty said = (elim (row_of tables serial) as (λ o. row_of tables serial ≡ o → answer ≡ o) [
    | None ↦ λ is. let e : ◌≡◌ {A = Result (Option Row) E} (Ok answer) (Ok None) = empty.1 (none is) in cc
    | Some row ↦ λ is. by_answer row is answer (one row is) (λ e. empty.0 (ap Ok e)) said
  ]) refl
    where
      by_answer : (row : Row) → row_of tables serial ≡ Some row → (answer : Option Row) → items ≡ row_columns row ∷ [] → (answer ≡ None → items ≡ []) → IfSome answer (λ row. map (row_said 0) items ≡ Some row ∷ [])
          → answer ≡ Some row
      by_answer row is None shown empty said = absurd (let e : [] ≡ row_columns row ∷ [] = sym (empty refl) ∙ shown in cc)
      by_answer row is (Some r) shown empty said =
          ap Some (row_decoded row r (row_kept tables.rows serial row kept.rows is).limit (one_of _ _ (sym (ap (map (row_said 0)) shown) ∙ said)))

  -- the order with an id, and the form of its row
  pub order_told : (id : List ℕ) (result : Result (Option (Order × Form)) E) → (order_of tables id ≡ None → items ≡ [])
      → ((order : Order) → order_of tables id ≡ Some order → (row : Row) → row_of tables order.serial ≡ Some row → items ≡ (order_columns order ++ row_columns row) ∷ [])
      → ((result ≡ Ok None) ↔ (items ≡ [])) → IfOk result (λ answer. IfSome answer (λ f. map order_said items ≡ Some f.0 ∷ []))
      → IfOk result (λ answer. IfSome answer (λ f. map (form_said 8 f.0.serial) items ≡ Some f.1 ∷ [])) → IfOk result (λ found. IsOrderOf tables id found)
  order_told id (Err e) none one empty said form = tt
  order_told id (Ok None) none one empty said form = (elim (order_of tables id) as (λ o. order_of tables id ≡ o → o ≡ None) [
    | None ↦ λ is. refl
    | Some order ↦ λ is.
        let row = some_is (row_of tables order.serial) (order_kept tables.rows tables.orders id order kept.orders is).1 in
        absurd (let e : [] ≡ (order_columns order ++ row_columns row.0) ∷ [] = sym (empty.0 refl) ∙ one order is row.0 row.1 in cc)
  ]) refl
  order_told id (Ok (Some found)) none one empty said form = (elim (order_of tables id) as (λ o. order_of tables id ≡ o → (o ≡ Some found.0) × (form_in tables found.0.serial ≡ Some found.1)) [
    | None ↦ λ is. absurd (let e : [] ≡ Some found.0 ∷ [] = sym (ap (map order_said) (none is)) ∙ said in cc)
    | Some order ↦ λ is.
        let row = some_is (row_of tables order.serial) (order_kept tables.rows tables.orders id order kept.orders is).1 in
        let shown = one order is row.0 row.1 in
        let limit : is_limit row.0.limit ≡ true = (row_kept tables.rows order.serial row.0 kept.rows row.1).limit in
        let same : found.0 ≡ order = order_decoded order found.0 (sym (said_in_front order row.0) ∙ one_of _ _ (sym (ap (map order_said) shown) ∙ said)) in
        let formed : found.1 ≡ row.0.form = form_decoded order row.0 found.1 limit (one_of _ _ (sym (ap (map (form_said 8 order.serial)) shown) ∙ subst (λ (o : Order). map (form_said 8 o.serial) items ≡ Some found.1 ∷ []) same form)) in
        (ap Some (sym same), ap (λ (o : Order). form_in tables o.serial) same ∙ (ap (option_map (λ (r : Row). r.form)) row.1 ∙ ap Some (sym formed)))
  ]) refl

-- What holds of an answer for each of these tables.
pub for_all_tables : {A E : Type 0} (T : Tables → Type 0) (P : Tables → A → Type 0) (result : Result A E) → ((tables : Tables) → T tables → Kept tables → IfOk result (P tables))
    → IfOk result (λ answer. (tables : Tables) → T tables → Kept tables → P tables answer)
for_all_tables T P (Ok answer) all = all
for_all_tables T P (Err e) all = tt
