-- The orders of all rows are all orders.
use Rattle.std.proofs.Common.{◌≡◌, ℕ, suc, ◌+◌, Bool, true, false, inl, inr, cond, List, [], ◌∷◌, length, filter, Option, Some, None, refl, sym, ap, ◌∙◌, arith}
use Rattle.std.specs.Prelude.{sum_by, IsSome}
use Rattle.std.proofs.lemmas.List.Sums.{sum_by-cons}
use Rattle.ledger_spec.specs.declared.Row.{Row}
use Rattle.ledger_spec.specs.declared.Order.{Order}
use Rattle.ledger_spec.specs.Names.{same_name}
use Rattle.ledger_spec.specs.Tables.{Tables, row_in, AreRows, AreOrders, Kept}
use Rattle.ledger_spec.specs.Putting.{put_among, sorted_by}
use Rattle.ledger_spec.specs.Sorted.{order_before, row_before, is_for, orders_for, all_rows}
use Rattle.ledger_spec.proofs.NameLemmas.{is_same, same_or_not}
use Rattle.loan_ledger.specs.Audit.{order_count}

module _ {X : Type 0} (before : X → X → Bool) where
  length_put : (x : X) (ys : List X) → length (put_among before x ys) ≡ suc (length ys)
  length_put x [] = refl
  length_put x (y ∷ ys) = elim (before y x) as (λ b. length (cond b (y ∷ put_among before x ys) (x ∷ y ∷ ys)) ≡ suc (suc (length ys))) [
    | true ↦ ap (λ n. suc n) (length_put x ys)
    | false ↦ refl
  ]

  pub length_sorted : (xs : List X) → length (sorted_by before xs) ≡ length xs
  length_sorted [] = refl
  length_sorted (x ∷ xs) = length_put x (sorted_by before xs) ∙ ap (λ n. suc n) (length_sorted xs)

  module _ (f : X → ℕ) where
    sum_put : (x : X) (ys : List X) → sum_by f (put_among before x ys) ≡ f x + sum_by f ys
    sum_put x [] = sum_by-cons f x []
    sum_put x (y ∷ ys) = elim (before y x) as (λ b. sum_by f (cond b (y ∷ put_among before x ys) (x ∷ y ∷ ys)) ≡ f x + sum_by f (y ∷ ys)) [
      | true ↦
          let one = sum_by-cons f y (put_among before x ys) in
          let two = sum_by-cons f y ys in
          let rest = sum_put x ys in
          omega (arith, one, two, rest)
      | false ↦ sum_by-cons f x (y ∷ ys)
    ]

    pub sum_sorted : (xs : List X) → sum_by f (sorted_by before xs) ≡ sum_by f xs
    sum_sorted [] = refl
    sum_sorted (x ∷ xs) = sum_put x (sorted_by before xs) ∙ ap (λ n. f x + n) (sum_sorted xs) ∙ sym (sum_by-cons f x xs)

-- a test of two names is the same the other way round
flipped : (a b : List ℕ) → same_name b a ≡ false → same_name a b ≡ false
flipped a b not = elim (same_or_not a b) [
  | inl same ↦ let bad : same_name b a ≡ true = is_same b a (sym same) in cc
  | inr other ↦ other
]

some_behind : (o : Option Row) (row : Row) (b : Bool) → b ≡ false → IsSome (cond b (Some row) o) → IsSome o
some_behind o row true not some = cc
some_behind o row false not some = some

-- 1 for the row of an order
abbrev own : Order → Row → ℕ
own order row = cond (same_name order.serial row.serial) 1 0

none_owns : (order : Order) (rows : List Row) → row_in rows order.serial ≡ None → sum_by (own order) rows ≡ 0
none_owns order [] none = refl
none_owns order (row ∷ rows) none = elim (same_or_not order.serial row.serial) [
  | inl same ↦
      let found : row_in (row ∷ rows) order.serial ≡ Some row = ap (λ b. cond b (Some row) (row_in rows order.serial)) (is_same row.serial order.serial (sym same)) in
      let bad : None ≡ Some row = sym none ∙ found in
      cc
  | inr other ↦
      let not : same_name row.serial order.serial ≡ false = flipped row.serial order.serial other in
      let rest : sum_by (own order) rows ≡ 0 = none_owns order rows (sym (ap (λ b. cond b (Some row) (row_in rows order.serial)) not) ∙ none) in
      sum_by-cons (own order) row rows ∙ ap (λ b. cond b 1 0 + sum_by (own order) rows) other ∙ omega arith
]

one_owns : (order : Order) (rows : List Row) → AreRows rows → IsSome (row_in rows order.serial) → sum_by (own order) rows ≡ 1
one_owns order [] are some = cc
one_owns order (row ∷ rows) are some = elim (same_or_not order.serial row.serial) [
  | inl same ↦
      let rest : sum_by (own order) rows ≡ 0 = none_owns order rows (ap (λ s. row_in rows s) same ∙ are.1) in
      sum_by-cons (own order) row rows ∙ ap (λ b. cond b 1 0 + sum_by (own order) rows) (is_same order.serial row.serial same) ∙ omega arith
  | inr other ↦
      let not : same_name row.serial order.serial ≡ false = flipped row.serial order.serial other in
      let rest : sum_by (own order) rows ≡ 1 = one_owns order rows are.2 (some_behind (row_in rows order.serial) row (same_name row.serial order.serial) not some) in
      sum_by-cons (own order) row rows ∙ ap (λ b. cond b 1 0 + sum_by (own order) rows) other ∙ omega arith
]

-- how many of some orders each row has
abbrev has : List Order → Row → ℕ
has orders row = length (filter (is_for row.serial) orders)

has_more : (order : Order) (orders : List Order) (row : Row) → has (order ∷ orders) row ≡ own order row + has orders row
has_more order orders row = elim (same_name order.serial row.serial) as (λ b.
    length (cond b (order ∷ filter (is_for row.serial) orders) (filter (is_for row.serial) orders)) ≡ cond b 1 0 + length (filter (is_for row.serial) orders)) [
      | true ↦ omega arith
      | false ↦ omega arith
    ]

sum_more : (order : Order) (orders : List Order) (rows : List Row) → sum_by (has (order ∷ orders)) rows ≡ sum_by (own order) rows + sum_by (has orders) rows
sum_more order orders [] = refl
sum_more order orders (row ∷ rows) =
    let one : has (order ∷ orders) row ≡ own order row + has orders row = has_more order orders row in
    let rest : sum_by (has (order ∷ orders)) rows ≡ sum_by (own order) rows + sum_by (has orders) rows = sum_more order orders rows in
    let a = sum_by-cons (has (order ∷ orders)) row rows in
    let b = sum_by-cons (own order) row rows in
    let c = sum_by-cons (has orders) row rows in
    omega (arith, one, rest, a, b, c)

no_orders : (rows : List Row) → sum_by (has []) rows ≡ 0
no_orders [] = refl
no_orders (row ∷ rows) = let a = sum_by-cons (has []) row rows in let rest = no_orders rows in omega (arith, a, rest)

all_owned : (rows : List Row) (orders : List Order) → AreRows rows → AreOrders rows orders → sum_by (has orders) rows ≡ length orders
all_owned rows [] are kept = no_orders rows
all_owned rows (order ∷ orders) are kept =
    let one : sum_by (own order) rows ≡ 1 = one_owns order rows are kept.2 in
    let rest : sum_by (has orders) rows ≡ length orders = all_owned rows orders are kept.3 in
    sum_more order orders rows ∙ omega arith

sum_same : {X : Type 0} (f g : X → ℕ) → ((x : X) → f x ≡ g x) → (xs : List X) → sum_by f xs ≡ sum_by g xs
sum_same f g same [] = refl
sum_same f g same (x ∷ xs) =
    let one : f x ≡ g x = same x in
    let rest : sum_by f xs ≡ sum_by g xs = sum_same f g same xs in
    let a = sum_by-cons f x xs in
    let b = sum_by-cons g x xs in
    omega (arith, one, rest, a, b)

pub counts_all : (t : Tables) → Kept t → order_count t (all_rows t) ≡ length t.orders
counts_all t kept =
    sum_sorted row_before (λ row. length (orders_for t row.serial)) t.rows
    ∙ sum_same (λ row. length (orders_for t row.serial)) (has t.orders) (λ row. length_sorted order_before (filter (is_for row.serial) t.orders)) t.rows
    ∙ all_owned t.rows t.orders kept.rows kept.orders
