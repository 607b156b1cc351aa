-- What stands in a life that is a deal.
use Rattle.std.proofs.Common.{◌≡◌, ℕ, ◌^◌, ◌<◌, true, false, Bool, cond, filter, inl, inr, List, [], ◌∷◌, Some, None, refl, sym, ap, ◌∙◌, subst, ⊎_elim}
use Rattle.paygo_spec.specs.declared.Config.{Config}
use Rattle.paygo_spec.specs.declared.Entry.{Entry}
use Rattle.paygo_spec.specs.declared.Entry.TheVariants.{Accept}
use Rattle.paygo_spec.specs.Chain.{token_at}
use Rattle.paygo_spec.specs.Clock.{unit_of}
use Rattle.paygo_spec.specs.History.{fresh}
use Rattle.paygo_spec.specs.Machine.{Stored}
use Rattle.paygo_spec.specs.Searched.{Searched, SearchedOn}
use Rattle.ledger_spec.specs.declared.Order.{Order}
use Rattle.ledger_spec.specs.declared.Row.{Row}
use Rattle.ledger_spec.specs.Names.{same_name}
use Rattle.ledger_spec.specs.Tables.{Tables, row_of, order_of, order_in, AreOrders, Kept}
use Rattle.ledger_spec.specs.Sorted.{is_for}
use Rattle.ledger_spec.specs.Replay.{orders_back}
use Rattle.ledger_spec.specs.Sound.{Sound}
use Rattle.ledger_spec.proofs.NameLemmas.{same_is, self_same, same_or_not}
use Rattle.ledger_spec.proofs.KeptLemmas.{order_kept, some_is}
use Rattle.run_spec.specs.Run.{World}
use Rattle.run_spec.specs.Headline.{HasOrder, IsMatched}
use Rattle.run_laws.proofs.Once.{IsOn, is_on, in_range, small_value}
use Rattle.deal_spec.specs.Deal.{Item, Accepted, Has}
use Rattle.deal_laws.specs.Lives.{AreOf}
use Rattle.deal_laws.proofs.Books.{entries_of, orders_of, AreTokens, IsHistory, accepted_has, tokens_has}
use Rattle.deal_laws.proofs.Chains.{same_in}

-- The world is that of the book: its tables are sound and have the book's orders, and its device has the book's history.
pub record Stands (next : List ℕ → ℕ → ℕ) (serial : List ℕ) (config : Config) (world : World) (book : List Item) : Type 0 where
  pub sound : Sound next world.tables
  pub orders : orders_of book ≡ orders_back world.tables serial
  pub searched : SearchedOn next world.device.stored
  pub history : IsHistory config book world.device.stored
  pub tokens : AreTokens (next config.key) config.start book

-- what a filter leaves
pub has_filter : (test : Order → Bool) (orders : List Order) (order : Order) → Has (filter test orders) order → Has orders order × (test order ≡ true)
has_filter test [] order has = absurd has
has_filter test (o ∷ orders) order has = (elim (test o) as (λ t. test o ≡ t → Has (cond t (o ∷ filter test orders) (filter test orders)) order → Has (o ∷ orders) order × (test order ≡ true)) [
  | true ↦ λ is has. ⊎_elim (λ (e : order ≡ o). (inl e, ap test e ∙ is)) (λ more. let rest = has_filter test orders order more in (inr rest.0, rest.1)) has
  | false ↦ λ is has. let rest = has_filter test orders order has in (inr rest.0, rest.1)
]) refl has

pub filter_has : (test : Order → Bool) (orders : List Order) (order : Order) → Has orders order → test order ≡ true → Has (filter test orders) order
filter_has test [] order has is = absurd has
filter_has test (o ∷ orders) order (inl e) is = let here : test o ≡ true = ap test (sym e) ∙ is in rw here (inl e)
filter_has test (o ∷ orders) order (inr has) is = (elim (test o) as (λ t. Has (cond t (o ∷ filter test orders) (filter test orders)) order) [
  | true ↦ inr (filter_has test orders order has is)
  | false ↦ filter_has test orders order has is
])

-- an order of tables in order is found by its id
order_behind : (orders : List Order) (o order : Order) → order_in orders o.id ≡ None → order_in orders order.id ≡ Some order → cond (same_name o.id order.id) (Some o) (order_in orders order.id) ≡ Some order
order_behind orders o order none found = ⊎_elim
    (λ (same : o.id ≡ order.id). absurd (let bad : None ≡ Some order = sym none ∙ ap (order_in orders) same ∙ found in cc))
    (λ (other : same_name o.id order.id ≡ false). rw other found)
    (same_or_not o.id order.id)

pub order_there : (rows : List Row) (orders : List Order) (order : Order) → AreOrders rows orders → Has orders order → order_in orders order.id ≡ Some order
order_there rows [] order are has = absurd has
order_there rows (o ∷ orders) order are (inl e) =
    subst (λ (x : Order). cond (same_name o.id x.id) (Some o) (order_in orders x.id) ≡ Some x) (sym e) (rw (self_same o.id) refl)
order_there rows (o ∷ orders) order are (inr has) = order_behind orders o order are.1 (order_there rows orders order are.3 has)

-- and what is found is one of the tables
pub found_has : (orders : List Order) (id : List ℕ) (order : Order) → order_in orders id ≡ Some order → Has orders order
found_has [] id order is = cc
found_has (o ∷ orders) id order is = (elim (same_name o.id id) as (λ t. cond t (Some o) (order_in orders id) ≡ Some order → Has (o ∷ orders) order) [
  | true ↦ λ found. inl (let one : Some o ≡ Some order = found in cc)
  | false ↦ λ found. inr (found_has orders id order found)
]) is

-- An order of the device with this serial, in tables in order.
pub record IsOrderOf (tables : Tables) (serial : List ℕ) (order : Order) : Type 0 where
  pub found : order_of tables order.id ≡ Some order
  pub own : order.serial ≡ serial
  pub row : Row
  pub row_is : row_of tables order.serial ≡ Some row

pub order_is_of : (tables : Tables) (serial : List ℕ) (order : Order) → Kept tables → Has (orders_back tables serial) order → IsOrderOf tables serial order
order_is_of tables serial order kept has =
    let parts = has_filter (is_for serial) tables.orders order has in
    let found : order_of tables order.id ≡ Some order = order_there tables.rows tables.orders order kept.orders parts.0 in
    let row = some_is (row_of tables order.serial) (order_kept tables.rows tables.orders order.id order kept.orders found).1 in
    record { found = found; own = same_is order.serial serial parts.1; row = row.0; row_is = row.1 }

module _ (next : List ℕ → ℕ → ℕ) (serial : List ℕ) (config : Config) where
  -- What is known of the token of an order on the chain of its device.
  pub record IsOnChain (order : Order) : Type 0 where
    pub on : IsOn (next config.key) config.start order
    pub small : order.value < 1000
    pub few : order.token < 10 ^ 9

  pub on_chain : (world : World) (order : Order) → Sound next world.tables → AreOf serial config world → Has (orders_back world.tables serial) order → IsOnChain order
  on_chain world order sound are has =
      let is = order_is_of world.tables serial order sound.kept has in
      let has_it : HasOrder world.tables is.row order = record { order_is = is.found; row_is = is.row_is } in
      let matched : IsMatched is.row config = are.row is.row (ap (λ s. row_of world.tables s) (sym is.own) ∙ is.row_is) in
      record {
        on = is_on next world.tables is.row order config sound has_it matched;
        small = small_value order (in_range next world.tables is.row order sound has_it);
        few = (in_range next world.tables is.row order sound has_it).token;
      }

  -- where the token of an order was accepted, it was as that of the order's count and value
  pub accepted_alone : (stored : Stored) (book : List Item) (order : Order) → IsHistory config book stored → SearchedOn next stored → AreTokens (next config.key) config.start book → IsOnChain order
      → (n v : ℕ) → Has book (Accepted n v order.token) → (n ≡ order.count) × (v ≡ order.value)
  accepted_alone stored book order (inl blank) searched tokens on n v has =
      absurd (subst (λ (es : List Entry). Has es (Accept n v)) blank.1 (accepted_has book n v order.token has))
  accepted_alone stored book order (inr made) searched tokens on n v has =
      let were : Searched (next config.key) config.start (unit_of config.divider) fresh (entries_of book) = subst (SearchedOn next) made.1 searched in
      let token : order.token ≡ token_at (next config.key) config.start v n = tokens_has (next config.key) config.start book n v order.token tokens has in
      same_in (next config.key) config.start (unit_of config.divider) fresh order.count order.value on.small on.on.clean (entries_of book) n v were (accepted_has book n v order.token has) (sym token ∙ on.on.token)
