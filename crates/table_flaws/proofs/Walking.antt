-- One order more of those of a row, from the oldest one on.
use Rattle.std.proofs.Common.{◌≡◌, ℕ, zero, suc, ◌<◌, List, [], ◌∷◌, ◌++◌, length, get_or, drop, refl, sym, ap, ◌∙◌, append_assoc, arith}
use Rattle.std.proofs.lemmas.List.{append-nil, drop_all}
use Rattle.std.proofs.Math.Seq.{drop-cons}
use Rattle.ledger_spec.specs.declared.Row.{Row}
use Rattle.ledger_spec.specs.declared.Order.{Order}
use Rattle.ledger_spec.specs.Replay.{Account, Booked, booked, no_account, account_after}
use Rattle.table_flaws.specs.declared.flaw.Flaw.{Flaw}
use Rattle.table_flaws.specs.Bounds.{bound_at}
use Rattle.table_flaws.specs.Flaws.{due_flaws, order_flaws, orders_flaws}

-- the bound behind a place is the count there
pub bound_of : (bound : ℕ) (orders : List Order) (place : ℕ) (d : Order) → place < length orders → bound_at bound orders (suc place) ≡ (get_or orders place d).count
bound_of bound [] place d within = absurd (omega arith)
bound_of bound (o ∷ os) zero d within = refl
bound_of bound (o ∷ os) (suc place) d within = bound_of o.count os place d (omega arith)

-- no order yet
pub account_none : (price : ℕ → ℕ) (total : ℕ) (orders : List Order) → no_account ≡ account_after price total (drop (length orders) orders)
account_none price total orders =
    let none : drop (length orders) orders ≡ [] = drop_all (length orders) orders (omega arith) in
    sym (ap (λ (os : List Order). account_after price total os) none)

pub flaws_none : (next price : ℕ → ℕ) (row : Row) (bound : ℕ) (orders : List Order) (old : List Flaw) → old ≡ old ++ orders_flaws next price row bound (drop (length orders) orders)
flaws_none next price row bound orders old =
    let none : drop (length orders) orders ≡ [] = drop_all (length orders) orders (omega arith) in
    sym (ap (λ (os : List Order). old ++ orders_flaws next price row bound os) none ∙ append-nil old)

module _ (next price : ℕ → ℕ) (row : Row) (orders : List Order) (i j : ℕ) (order : Order) (same : j ≡ suc i) (within : i < length orders) (is : order ≡ get_or orders i order) where
  here : drop i orders ≡ order ∷ drop (suc i) orders
  here = drop-cons orders i order within ∙ ap (λ (o : Order). o ∷ drop (suc i) orders) (sym is)

  behind : (bound : ℕ) → bound_at bound orders j ≡ order.count
  behind bound = ap (λ (n : ℕ). bound_at bound orders n) same ∙ bound_of bound orders i order within ∙ ap (λ (o : Order). o.count) (sym is)

  module _ (p : ℕ) (due : Booked) (sums : Account) (price_is : p ≡ price order.count) (was : sums ≡ account_after price row.total (drop j orders)) (due_is : due ≡ booked p row.total order.ask sums) where
    due_then : due ≡ booked (price order.count) row.total order.ask (account_after price row.total (drop (suc i) orders))
    due_then =
        due_is
        ∙ ap (λ (n : ℕ). booked n row.total order.ask sums) price_is
        ∙ ap (λ (a : Account). booked (price order.count) row.total order.ask a) (was ∙ ap (λ (n : ℕ). account_after price row.total (drop n orders)) same)

    -- what the order comes to
    pub account_more : due.account ≡ account_after price row.total (drop i orders)
    account_more = ap (λ (b : Booked). b.account) due_then ∙ sym (ap (λ (os : List Order). account_after price row.total os) here)

    -- and what is wrong with it
    pub flaws_more : (bound b : ℕ) (old now new : List Flaw) → b ≡ bound_at bound orders i
        → now ≡ old ++ orders_flaws next price row (bound_at bound orders j) (drop j orders)
        → new ≡ now ++ due_flaws next row b order due
        → new ≡ old ++ orders_flaws next price row (bound_at bound orders i) (drop i orders)
    flaws_more bound b old now new bound_is so_far more =
        more
        ∙ ap (λ (n : ℕ). now ++ due_flaws next row n order due) bound_is
        ∙ ap (λ (d : Booked). now ++ due_flaws next row (bound_at bound orders i) order d) due_then
        ∙ ap (λ (xs : List Flaw). xs ++ order_flaws next price row (bound_at bound orders i) order (drop (suc i) orders)) so_far
        ∙ append_assoc old (orders_flaws next price row (bound_at bound orders j) (drop j orders)) (order_flaws next price row (bound_at bound orders i) order (drop (suc i) orders))
        ∙ ap (λ (n : ℕ). old ++ (orders_flaws next price row n (drop j orders) ++ order_flaws next price row (bound_at bound orders i) order (drop (suc i) orders))) (behind bound)
        ∙ ap (λ (n : ℕ). old ++ (orders_flaws next price row order.count (drop n orders) ++ order_flaws next price row (bound_at bound orders i) order (drop (suc i) orders))) same
        ∙ sym (ap (λ (os : List Order). old ++ orders_flaws next price row (bound_at bound orders i) os) here)
