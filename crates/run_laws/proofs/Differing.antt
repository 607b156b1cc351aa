-- Orders that look-ups find, and that differ.
use Rattle.std.proofs.Common.{◌≡◌, ℕ, zero, suc, ◌<◌, true, false, List, [], ◌∷◌, length, get_or, Some, None, refl, sym, ap, ◌∙◌, subst, cond, arith, ⊎_elim}
use Rattle.std.specs.Prelude.{Contains}
use Rattle.ledger_spec.specs.declared.Order.{Order}
use Rattle.ledger_spec.specs.declared.Row.{Row}
use Rattle.ledger_spec.specs.Names.{same_name}
use Rattle.ledger_spec.specs.Sound.{Sound}
use Rattle.ledger_spec.specs.Tables.{Tables, row_of, order_of, row_in, order_in, no_tables, AreRows, AreOrders, Kept}
use Rattle.ledger_spec.proofs.NameLemmas.{same_is, self_same, same_or_not}
use Rattle.ledger_laws.proofs.Laws.{tokens_differ}
use Rattle.run_spec.specs.Headline.{HasOrder}

-- an id that no older order has is another than that of each older one
order_behind : (orders : List Order) (o order : Order) → order_in orders o.id ≡ None → order_in orders order.id ≡ Some order → cond (same_name o.id order.id) (Some o) (order_in orders order.id) ≡ Some order
order_behind orders o order none found = ⊎_elim
    (λ (same : o.id ≡ order.id). absurd (let bad : None ≡ Some order = sym none ∙ ap (order_in orders) same ∙ found in cc))
    (λ (other : same_name o.id order.id ≡ false). rw other found)
    (same_or_not o.id order.id)

order_there : (rows : List Row) (orders : List Order) (order : Order) → AreOrders rows orders → (k : ℕ) → k < length orders → get_or orders k order ≡ order → order_in orders order.id ≡ Some order
order_there rows [] order are k within is = absurd (omega (arith, within))
order_there rows (o ∷ orders) order are zero within is =
    subst (λ (x : Order). cond (same_name o.id x.id) (Some o) (order_in orders x.id) ≡ Some x) is (rw (self_same o.id) refl)
order_there rows (o ∷ orders) order are (suc k) within is =
    order_behind orders o order are.1 (order_there rows orders order are.3 k (omega (arith, within)) is)

row_behind : (rows : List Row) (r row : Row) → row_in rows r.serial ≡ None → row_in rows row.serial ≡ Some row → cond (same_name r.serial row.serial) (Some r) (row_in rows row.serial) ≡ Some row
row_behind rows r row none found = ⊎_elim
    (λ (same : r.serial ≡ row.serial). absurd (let bad : None ≡ Some row = sym none ∙ ap (row_in rows) same ∙ found in cc))
    (λ (other : same_name r.serial row.serial ≡ false). rw other found)
    (same_or_not r.serial row.serial)

row_there : (rows : List Row) (row : Row) → AreRows rows → (k : ℕ) → k < length rows → get_or rows k row ≡ row → row_in rows row.serial ≡ Some row
row_there [] row are k within is = absurd (omega (arith, within))
row_there (r ∷ rows) row are zero within is =
    subst (λ (x : Row). cond (same_name r.serial x.serial) (Some r) (row_in rows x.serial) ≡ Some x) is (rw (self_same r.serial) refl)
row_there (r ∷ rows) row are (suc k) within is =
    row_behind rows r row are.1 (row_there rows row are.2 k (omega (arith, within)) is)

pub order_found : (tables : Tables) (order : Order) → Kept tables → Contains tables.orders order → order_of tables order.id ≡ Some order
order_found tables order kept (k, within, is) = order_there tables.rows tables.orders order kept.orders k within is

pub row_found : (tables : Tables) (row : Row) → Kept tables → Contains tables.rows row → row_of tables row.serial ≡ Some row
row_found tables row kept (k, within, is) = row_there tables.rows row kept.rows k within is

pub one_id : (tables : Tables) (a b : Order) → Kept tables → Contains tables.orders a → Contains tables.orders b → a.id ≡ b.id → a ≡ b
one_id tables a b kept a_in b_in same =
    let both : Some a ≡ Some b = sym (order_found tables a kept a_in) ∙ ap (order_of tables) same ∙ order_found tables b kept b_in in cc

-- two serials that find one row are one
found_own : (rows : List Row) (serial : List ℕ) (row : Row) → row_in rows serial ≡ Some row → row.serial ≡ serial
found_own [] serial row is = cc
found_own (r ∷ rows) serial row is = (elim (same_name r.serial serial) as (λ t. same_name r.serial serial ≡ t → cond t (Some r) (row_in rows serial) ≡ Some row → row.serial ≡ serial) [
  | true ↦ λ same found. let one : r ≡ row = cc in ap (λ (x : Row). x.serial) (sym one) ∙ same_is r.serial serial same
  | false ↦ λ same found. found_own rows serial row found
]) refl is

module _ (next : List ℕ → ℕ → ℕ) (tables : Tables) (row : Row) (a b : Order) (sound : Sound next tables) (has_a : HasOrder tables row a) (has_b : HasOrder tables row b) where
  one_device : a.serial ≡ b.serial
  one_device = sym (found_own tables.rows a.serial row has_a.row_is) ∙ found_own tables.rows b.serial row has_b.row_is

  pub one_count : a.count ≡ b.count → a ≡ b
  one_count same = sound.counts a.id b.id a b has_a.order_is has_b.order_is one_device same

  pub one_token : a.token ≡ b.token → a ≡ b
  one_token same = tokens_differ next tables sound a.id b.id a b has_a.order_is has_b.order_is one_device same

pub empty_sound : (next : List ℕ → ℕ → ℕ) → Sound next no_tables
empty_sound next = record {
  kept = record { rows = tt; orders = tt; changes = tt };
  issued = λ id order row is row_is. absurd (let bad : None ≡ Some order = is in cc);
  counts = λ id other order second is too serial count. absurd (let bad : None ≡ Some order = is in cc);
  replayed = λ serial row is. absurd (let bad : None ≡ Some row = is in cc);
}
