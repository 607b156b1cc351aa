-- The orders of a device by rising count are the newest first, from behind; and what they come to by rising count.
use Rattle.std.proofs.lemmas.Grind.{reverse_onto}
use Rattle.std.proofs.Common.{Bool, ◌%◌, ◌/◌, ◌≡◌, ℕ, ◌+◌, ◌<◌, List, [], ◌∷◌, ◌++◌, filter, reverse, true, false, ◌||◌, cond, Some, refl, sym, ap, ◌∙◌, arith}
use Rattle.std.specs.Prelude.{nat_lt, ◌&&◌, ◌==◌}
use Rattle.std.specs.List.{AllByRecursion}
use Rattle.std.proofs.lemmas.Bool.{lt-ltb, le-ltb}
use Rattle.ledger_spec.specs.declared.Row.{Row}
use Rattle.ledger_spec.specs.declared.Order.{Order}
use Rattle.ledger_spec.specs.declared.Ask.{Ask}
use Rattle.ledger_spec.specs.declared.Ask.TheVariants as asks
use Rattle.ledger_spec.specs.declared.Kind.TheVariants as kind_is
use Rattle.ledger_spec.specs.Names.{same_name}
use Rattle.ledger_spec.specs.Putting.{put_among, sorted_by}
use Rattle.ledger_spec.specs.Sorted.{order_before, name_before, orders_for, is_for}
use Rattle.ledger_spec.specs.Tables.{Tables, row_of, prices_for}
use Rattle.ledger_spec.specs.Replay.{Account, Booked, booked, no_account, account_after, account_from, account_of, FallBelow, orders_back, price_by}
use Rattle.ledger_spec.proofs.SortedLemmas.{all_sorted}
use Rattle.ledger_spec.specs.Sound.{Sound, paid_with, paid_by}
use Rattle.ledger_laws.proofs.ReplayLemmas.{falls_from}

-- an order with the greatest count is put at the end
put_last : (order : Order) (orders : List Order) → AllByRecursion (λ o. o.count < order.count) orders → put_among order_before order orders ≡ orders ++ order ∷ []
put_last order [] all = refl
put_last order (o ∷ os) all =
    ap (λ b. cond (b || ((o.count == order.count) && name_before o.id order.id)) (o ∷ put_among order_before order os) (order ∷ o ∷ os)) (lt-ltb o.count order.count all.0)
    ∙ ap (λ l. o ∷ l) (put_last order os all.1)

all_below : (bound : ℕ) (orders : List Order) → FallBelow bound orders → AllByRecursion (λ o. o.count < bound) orders
all_below bound [] falls = tt
all_below bound (order ∷ orders) falls = let low : order.count < bound = falls.0 in (low, all_below bound orders (falls_from order.count bound orders (omega arith) falls.1))

-- orders with falling counts, by rising count
pub rising : (bound : ℕ) (orders : List Order) → FallBelow bound orders → sorted_by order_before orders ≡ reverse orders
rising bound [] falls = refl
rising bound (order ∷ orders) falls =
    put_last order (sorted_by order_before orders) (all_sorted order_before (λ o. o.count < order.count) orders (all_below order.count orders falls.1))
    ∙ ap (λ l. l ++ order ∷ []) (rising order.count orders falls.1) ∙ sym (reverse_onto orders order [])

module _ (price : ℕ → ℕ) (total : ℕ) where
  -- one order more at the end
  from_more : (account : Account) (orders : List Order) (order : Order) → account_from price total account (orders ++ order ∷ []) ≡ (booked (price order.count) total order.ask (account_from price total account orders)).account
  from_more account [] order = refl
  from_more account (o ∷ os) order = from_more (booked (price o.count) total o.ask account).account os order

  -- from the oldest on, or back from the newest
  pub from_is_after : (orders : List Order) → account_from price total no_account (reverse orders) ≡ account_after price total orders
  from_is_after [] = refl
  from_is_after (order ∷ orders) = ap (λ l. account_from price total no_account l) (reverse_onto orders order []) ∙ from_more no_account (reverse orders) order ∙ ap (λ (a : Account). (booked (price order.count) total order.ask a).account) (from_is_after orders)

  paid_more : (cost : ℕ) (ask : Ask) (account : Account) → (booked cost total ask account).account.paid ≡ account.paid + paid_with ask
  paid_more cost (asks.Pay amount) account = elim (nat_lt (account.paid + amount) total) as (λ b. (cond {A = Booked} b (record { kind = kind_is.Add; value = (account.rest + amount) / cost; account = record { paid = account.paid + amount; rest = (account.rest + amount) % cost; closed = account.closed } }) (record { kind = kind_is.Disable; value = 998; account = record { paid = account.paid + amount; rest = 0; closed = true } })).account.paid ≡ account.paid + amount) [ true ↦ refl | false ↦ refl ]
  paid_more cost (asks.Set units) account = omega arith
  paid_more cost asks.Disable account = omega arith
  paid_more cost asks.Sync account = omega arith

-- in sound tables the orders by rising count are the newest first, from behind
pub orders_rise : (next : List ℕ → ℕ → ℕ) (t : Tables) (serial : List ℕ) (row : Row) → Sound next t → row_of t serial ≡ Some row → orders_for t serial ≡ reverse (orders_back t serial)
orders_rise next t serial row sound is = rising (row.last + 1) (orders_back t serial) (sound.replayed serial row is).falls

-- and they come to what the row says
pub replayed_by_count : (next : List ℕ → ℕ → ℕ) (t : Tables) (serial : List ℕ) (row : Row) → Sound next t → row_of t serial ≡ Some row → account_from (price_by (prices_for t serial) row) row.total no_account (orders_for t serial) ≡ account_of row
replayed_by_count next t serial row sound is =
    ap (λ l. account_from (price_by (prices_for t serial) row) row.total no_account l) (orders_rise next t serial row sound is)
    ∙ from_is_after (price_by (prices_for t serial) row) row.total (orders_back t serial) ∙ (sound.replayed serial row is).account

-- what was paid for a device is what was paid with its orders
paid_after : (price : ℕ → ℕ) (total : ℕ) (orders : List Order) (serial : List ℕ) → (account_after price total (filter (is_for serial) orders)).paid ≡ paid_by orders serial
paid_after price total [] serial = refl
paid_after price total (order ∷ orders) serial =
    let rest : (account_after price total (filter (is_for serial) orders)).paid ≡ paid_by orders serial = paid_after price total orders serial in
    (elim (same_name order.serial serial) as (λ b. (account_after price total (cond b (order ∷ filter (is_for serial) orders) (filter (is_for serial) orders))).paid ≡ cond b (paid_with order.ask) 0 + paid_by orders serial) [
      | true ↦ paid_more price total (price order.count) order.ask (account_after price total (filter (is_for serial) orders)) ∙ omega (arith, rest)
      | false ↦ omega (arith, rest)
    ])

pub paid_is : (next : List ℕ → ℕ → ℕ) (t : Tables) (serial : List ℕ) (row : Row) → Sound next t → row_of t serial ≡ Some row → row.paid ≡ paid_by t.orders serial
paid_is next t serial row sound is =
    ap (λ (a : Account). a.paid) (sym (sound.replayed serial row is).account) ∙ paid_after (price_by (prices_for t serial) row) row.total t.orders serial

pub rows_come_to : (next : List ℕ → ℕ → ℕ) (t : Tables) (serial : List ℕ) (row : Row) → Sound next t → row_of t serial ≡ Some row
    → (orders_for t serial ≡ reverse (orders_back t serial)) × (account_from (price_by (prices_for t serial) row) row.total no_account (orders_for t serial) ≡ account_of row)
rows_come_to next t serial row sound is = (orders_rise next t serial row sound is, replayed_by_count next t serial row sound is)

-- Whether an order stands before another by falling count.
abbrev pub order_after : Order → Order → Bool
order_after a b = nat_lt b.count a.count

put_first : (order : Order) (orders : List Order) → FallBelow order.count orders → put_among order_after order orders ≡ order ∷ orders
put_first order [] falls = refl
put_first order (o ∷ os) falls = let low : o.count < order.count = falls.0 in ap (λ b. cond b (o ∷ put_among order_after order os) (order ∷ o ∷ os)) (le-ltb order.count o.count (omega arith))

-- orders with falling counts stand by falling count as they are
pub falling : (bound : ℕ) (orders : List Order) → FallBelow bound orders → sorted_by order_after orders ≡ orders
falling bound [] falls = refl
falling bound (order ∷ orders) falls = ap (λ l. put_among order_after order l) (falling order.count orders falls.1) ∙ put_first order orders falls.1
