-- The orders of a row of sound tables are as a shop issues them.
use Rattle.std.proofs.Common.{◌≡◌, ℕ, ◌+◌, ◌%◌, ◌≤◌, ◌==◌, cond, Bool, true, false, Some, None, ◌⊎◌, ◌/◌, inl, inr, List, [], ◌∷◌, filter, refl, sym, ap, ◌∙◌, subst, ⊎_elim, arith}
use Rattle.std.specs.Prelude.{IsSome, nat_lt, nat_le}
use Rattle.std.specs.List.{AllByRecursion}
use Rattle.std.proofs.lemmas.Bool.{cases_Bool}
use Rattle.std.proofs.lemmas.Bool.Decides.{nat_tests}
use Rattle.paygo_spec.specs.History.{IsLimit, is_odd, kind_of}
use Rattle.ledger_spec.specs.declared.Ask.{Ask}
use Rattle.ledger_spec.specs.declared.Ask.TheVariants as asks
use Rattle.ledger_spec.specs.declared.Kind.{Kind}
use Rattle.ledger_spec.specs.declared.Kind.TheVariants as kind_is
use Rattle.ledger_spec.specs.declared.Order.{Order}
use Rattle.ledger_spec.specs.declared.Row.{Row}
use Rattle.ledger_spec.specs.Issuing.{parity_of}
use Rattle.ledger_spec.specs.Names.{same_name}
use Rattle.ledger_spec.specs.Replay.{Account, booked, paid_in, account_after, price_by, AreBooked, orders_back}
use Rattle.ledger_spec.specs.Sorted.{is_for, order_before, orders_for}
use Rattle.ledger_spec.specs.Sound.{Sound, IsIssued}
use Rattle.ledger_spec.specs.Tables.{Tables, row_of, order_in, prices_for, AskIsInRange, OrderIsInRange, RowIsInRange, AreOrders, is_limit}
use Rattle.ledger_spec.proofs.KeptLemmas.{row_kept}
use Rattle.ledger_spec.proofs.NameLemmas.{same_is, self_same, same_or_not}
use Rattle.ledger_spec.proofs.SortedLemmas.{all_sorted, orders_in_range}
use Rattle.sync_advice.specs.Advice.{order_with, last_count}
use Rattle.sync_advice.specs.Typing.{IsSold, AreSold}
use Rattle.sync_advice.proofs.Climbing.{with_count, last_listed}

-- what holds of each holds of the one that is found
found_all : (P : Order → Type 0) (orders : List Order) (count : ℕ) (order : Order) → AllByRecursion P orders → order_with orders count ≡ Some order → P order
found_all P [] count order all h = cc
found_all P (first ∷ orders) count order all h =
    ⊎_elim
    (λ (t : (first.count == count) ≡ true). let q : Some first ≡ Some order = rw t at h in let e : first ≡ order = cc in subst P e all.0)
    (λ (f : (first.count == count) ≡ false). found_all P orders count order all.1 (rw f at h))
    (cases_Bool (first.count == count))

all_map : (P Q : Order → Type 0) → ((order : Order) → P order → Q order) → (orders : List Order) → AllByRecursion P orders → AllByRecursion Q orders
all_map P Q f [] all = tt
all_map P Q f (order ∷ orders) all = (f order all.0, all_map P Q f orders all.1)

all_both : (P Q : Order → Type 0) (orders : List Order) → AllByRecursion P orders → AllByRecursion Q orders → AllByRecursion (λ order. P order × Q order) orders
all_both P Q [] all more = tt
all_both P Q (order ∷ orders) all more = ((all.0, more.0), all_both P Q orders all.1 more.1)

all_where : (P : Order → Type 0) (test : Order → Bool) (orders : List Order) → AllByRecursion P orders → AllByRecursion (λ order. P order × (test order ≡ true)) (filter test orders)
all_where P test [] all = tt
all_where P test (o ∷ orders) all = (elim (test o) as (λ t. test o ≡ t → AllByRecursion (λ order. P order × (test order ≡ true)) (cond t (o ∷ filter test orders) (filter test orders))) [
  | true ↦ λ is. ((all.0, is), all_where P test orders all.1)
  | false ↦ λ is. all_where P test orders all.1
]) refl

-- in tables in order each order is found by its id
order_behind : (orders : List Order) (o order : Order) → order_in orders o.id ≡ None → order_in orders order.id ≡ Some order → cond (same_name o.id order.id) (Some o) (order_in orders order.id) ≡ Some order
order_behind orders o order none found = ⊎_elim
    (λ (same : o.id ≡ order.id). absurd (let bad : None ≡ Some order = sym none ∙ ap (order_in orders) same ∙ found in cc))
    (λ (other : same_name o.id order.id ≡ false). rw other found)
    (same_or_not o.id order.id)

all_found : (rows : List Row) (orders : List Order) → AreOrders rows orders → AllByRecursion (λ order. order_in orders order.id ≡ Some order) orders
all_found rows [] are = tt
all_found rows (o ∷ orders) are = (
  rw (self_same o.id) refl,
  all_map (λ order. order_in orders order.id ≡ Some order) (λ order. order_in (o ∷ orders) order.id ≡ Some order) (λ order found. order_behind orders o order are.1 found) orders (all_found rows orders are.3),
)

-- tokens that do something
units_effect : (count value : ℕ) → value ≤ 995 → IsSome (kind_of count value)
units_effect count value few =
    let t : nat_le value 995 ≡ true = grind (arith, nat_tests) in
    ⊎_elim
    (λ (o : is_odd count ≡ true). rw (t, o) refl)
    (λ (o : is_odd count ≡ false). rw (t, o) refl)
    (cases_Bool (is_odd count))

odd_effect : (count value : ℕ) → count % 2 ≡ 1 → (value ≡ 998) ⊎ (value ≡ 999) → IsSome (kind_of count value)
odd_effect count value odd is =
    let o : is_odd count ≡ true = grind (arith, nat_tests) in
    ⊎_elim
    (λ (e : value ≡ 998). subst (λ (v : ℕ). IsSome (kind_of count v)) (sym e) (rw o refl))
    (λ (e : value ≡ 999). subst (λ (v : ℕ). IsSome (kind_of count v)) (sym e) (rw o refl))
    is

-- so does that of an order
paid_effect : (count value : ℕ) (kind : Kind) (below : Bool) (units : ℕ) → kind ≡ cond below kind_is.Add kind_is.Disable → value ≡ cond below units 998
    → count % 2 ≡ parity_of kind → (kind ≡ kind_is.Add → value ≤ 995) → IsSome (kind_of count value)
paid_effect count value kind true units k v parity few = units_effect count value (few k)
paid_effect count value kind false units k v parity few = odd_effect count value (parity ∙ ap parity_of k) (inl v)

paid_kind : (price total amount : ℕ) (account : Account) → (paid_in price total amount account).kind ≡ cond (nat_lt (account.paid + amount) total) kind_is.Add kind_is.Disable
paid_kind price total amount account =
    ⊎_elim
    (λ (t : nat_lt (account.paid + amount) total ≡ true). rw t refl)
    (λ (t : nat_lt (account.paid + amount) total ≡ false). rw t refl)
    (cases_Bool (nat_lt (account.paid + amount) total))

paid_value : (price total amount : ℕ) (account : Account) → (paid_in price total amount account).value ≡ cond (nat_lt (account.paid + amount) total) ((account.rest + amount) / price) 998
paid_value price total amount account =
    ⊎_elim
    (λ (t : nat_lt (account.paid + amount) total ≡ true). rw t refl)
    (λ (t : nat_lt (account.paid + amount) total ≡ false). rw t refl)
    (cases_Bool (nat_lt (account.paid + amount) total))

effect_of : (price total : ℕ) (ask : Ask) (account : Account) (count value : ℕ) (kind : Kind) → AskIsInRange ask → kind ≡ (booked price total ask account).kind → value ≡ (booked price total ask account).value
    → count % 2 ≡ parity_of kind → (kind ≡ kind_is.Add → value ≤ 995) → IsSome (kind_of count value)
effect_of price total (asks.Pay amount) account count value kind range k v parity few =
    paid_effect count value kind (nat_lt (account.paid + amount) total) ((account.rest + amount) / price) (k ∙ paid_kind price total amount account) (v ∙ paid_value price total amount account) parity few
effect_of price total (asks.Set units) account count value kind range k v parity few =
    units_effect count value (subst (λ (n : ℕ). n ≤ 995) (sym v) range)
effect_of price total asks.Disable account count value kind range k v parity few = odd_effect count value (parity ∙ ap parity_of k) (inl v)
effect_of price total asks.Sync account count value kind range k v parity few = odd_effect count value (parity ∙ ap parity_of k) (inr v)

module _ (next : List ℕ → ℕ → ℕ) (row : Row) (range : RowIsInRange row) where
  -- an order that is in range and was issued for the row
  pub record IsOf (order : Order) : Type 0 where
    pub in_range : OrderIsInRange order
    pub issued : IsIssued next row order

  one_sold : (price total : ℕ) (account : Account) (order : Order) → IsOf order → order.kind ≡ (booked price total order.ask account).kind → order.value ≡ (booked price total order.ask account).value
      → IsSold (next row.key) row.start row.limit order
  one_sold price total account order is k v =
      let in_range = is.in_range in
      let issued = is.issued in
      let few : order.value ≤ 999 = in_range.value in
      let least : 1 ≤ order.count = in_range.count.0 in
      let below : order.count ≤ row.last = issued.count in
      let last : row.last ≤ row.limit = range.last in
      record {
        token = issued.token;
        clean = issued.clean;
        few = omega (arith, few);
        first = least;
        limited = omega (arith, below, last);
        effect = effect_of price total order.ask account order.count order.value order.kind in_range.ask k v issued.parity issued.units;
        small = in_range.token;
      }

  each_sold : (price : ℕ → ℕ) (total : ℕ) (orders : List Order) → AllByRecursion IsOf orders → AreBooked price total orders → AllByRecursion (IsSold (next row.key) row.start row.limit) orders
  each_sold price total [] all are = tt
  each_sold price total (order ∷ orders) all are =
      (one_sold (price order.count) total (account_after price total orders) order all.0 are.0 are.1, each_sold price total orders all.1 are.2)

pub row_is_sold : (next : List ℕ → ℕ → ℕ) (tables : Tables) (serial : List ℕ) (row : Row) → Sound next tables → row_of tables serial ≡ Some row
    → AreSold (next row.key) row.start row.limit (orders_for tables serial)
row_is_sold next tables serial row sound is count order found =
    let kept = sound.kept in
    let range : RowIsInRange row = row_kept tables.rows serial row kept.rows is in
    let P : Order → Type 0 = IsSold (next row.key) row.start row.limit in
    let F : Order → Type 0 = λ o. order_in tables.orders o.id ≡ Some o in
    let both = all_both F OrderIsInRange tables.orders (all_found tables.rows tables.orders kept.orders) (orders_in_range tables.rows tables.orders kept.orders) in
    let own = all_where (λ o. F o × OrderIsInRange o) (is_for serial) tables.orders both in
    let of_row = all_map (λ o. (F o × OrderIsInRange o) × (is_for serial o ≡ true)) (IsOf next row range) (λ o h. record {
      in_range = h.0.1;
      issued = sound.issued o.id o row h.0.0 (ap (λ s. row_of tables s) (same_is o.serial serial h.1) ∙ is);
    }) (orders_back tables serial) own in
    let sold = each_sold next row range (price_by (prices_for tables serial) row) row.total (orders_back tables serial) of_row (sound.replayed serial row is).booked in
    found_all P (orders_for tables serial) count order (all_sorted order_before P (orders_back tables serial) sold) found

-- the limit of a row is one of the two
limit_is : (limit : ℕ) → is_limit limit ≡ true → IsLimit limit
limit_is limit is = ⊎_elim
    (λ (t : (limit == 4095) ≡ true). inl (grind (arith, nat_tests)))
    (λ (f : (limit == 4095) ≡ false). let t : (limit == 16383) ≡ true = rw f at is in inr (grind (arith, nat_tests)))
    (cases_Bool (limit == 4095))

pub row_is_limited : (next : List ℕ → ℕ → ℕ) (tables : Tables) (serial : List ℕ) (row : Row) → Sound next tables → row_of tables serial ≡ Some row → IsLimit row.limit
row_is_limited next tables serial row sound is = limit_is row.limit (row_kept tables.rows serial row sound.kept.rows is).limit

-- and no order is above it
pub row_is_within : (next : List ℕ → ℕ → ℕ) (tables : Tables) (serial : List ℕ) (row : Row) → Sound next tables → row_of tables serial ≡ Some row → last_count (orders_for tables serial) ≤ row.limit
row_is_within next tables serial row sound is =
    let orders = orders_for tables serial in
    let P = λ (k : ℕ). k ≤ row.limit in
    ⊎_elim
    (λ (z : last_count orders ≡ 0). subst P (sym z) (omega arith))
    (λ (p : (order : Order) × (order_with orders (last_count orders) ≡ Some order)).
    subst P (with_count orders (last_count orders) p.0 p.1) (row_is_sold next tables serial row sound is (last_count orders) p.0 p.1).limited)
    (last_listed orders)
