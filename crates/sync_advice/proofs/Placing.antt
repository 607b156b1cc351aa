-- The table of the orders by their counts.
use Rattle.std.proofs.Common.{◌≡◌, ◌≢◌, ℕ, zero, suc, ◌+◌, ◌<◌, ◌≤◌, ◌==◌, max, true, false, List, [], ◌∷◌, ◌++◌, length, take, drop, set, get_or, Option, Some, None, refl, sym, ap, ◌∙◌, subst, arith, ⊎_elim}
use Rattle.std.specs.Prelude.{IsSome}
use Rattle.std.specs.Option.{option_or}
use Rattle.std.proofs.Math.Seq.{drop-nil, take-append_seam}
use Rattle.std.proofs.lemmas.Bool.{cases_eq}
use Rattle.std.proofs.lemmas.Bool.Decides.{nat_tests}
use Rattle.std.proofs.lemmas.List.{drop_more, length-set, get_or-set_same, get_or-set_other}
use Rattle.ledger_spec.specs.declared.Order.{Order}
use Rattle.sync_advice.specs.Advice.{order_with, last_count}

-- the table after some of the orders, of which these are left
abbrev pub ArePlaced : List Order → List (Option Order) → List Order → Type 0
ArePlaced orders firsts left =
    (count : ℕ) → option_or (get_or firsts count None) (order_with left count) ≡ order_with orders count

-- an order that is passed
with_other : (first : Order) (left : List Order) (count : ℕ) → first.count ≢ count
    → order_with (first ∷ left) count ≡ order_with left count
with_other first left count other = let t : (first.count == count) ≡ false = grind (arith, nat_tests) in rw t refl

with_same : (first : Order) (left : List Order) (count : ℕ) → first.count ≡ count
    → order_with (first ∷ left) count ≡ Some first
with_same first left count same = let t : (first.count == count) ≡ true = grind (arith, nat_tests) in rw t refl

-- where one stands already, the next of that count is passed by
passed_at : (found : Option Order) (one other : Option Order) → IsSome found
    → option_or found one ≡ option_or found other
passed_at None one other is = cc
passed_at (Some order) one other is = refl

placed_past : (orders : List Order) (firsts : List (Option Order)) (first : Order) (left : List Order)
    → IsSome (get_or firsts first.count None) → ArePlaced orders firsts (first ∷ left)
    → ArePlaced orders firsts left
placed_past orders firsts first left is placed = λ count. ⊎_elim
    (λ (t : first.count ≡ count).
    let one : IsSome (get_or firsts count None) = subst (λ (k : ℕ). IsSome (get_or firsts k None)) t is in
    passed_at (get_or firsts count None) (order_with left count) (order_with (first ∷ left) count) one ∙ placed count)
    (λ (f : first.count ≢ count).
    ap (λ (o : Option Order). option_or (get_or firsts count None) o) (sym (with_other first left count f))
    ∙ placed count)
    (cases_eq first.count count)

-- where none stands, it is put there
placed_more : (orders : List Order) (firsts : List (Option Order)) (first : Order) (left : List Order)
    → first.count < length firsts → get_or firsts first.count None ≡ None → ArePlaced orders firsts (first ∷ left)
    → ArePlaced orders (set firsts first.count (Some first)) left
placed_more orders firsts first left within none placed = λ count. ⊎_elim
    (λ (t : first.count ≡ count).
    let here : get_or (set firsts first.count (Some first)) count None ≡ Some first =
    ap (λ (k : ℕ). get_or (set firsts first.count (Some first)) k None) (sym t)
    ∙ get_or-set_same firsts first.count (Some first) None within in
    let before : get_or firsts count None ≡ None = ap (λ (k : ℕ). get_or firsts k None) (sym t) ∙ none in
    ap (λ (o : Option Order). option_or o (order_with left count)) here ∙ sym (with_same first left count t)
    ∙ sym (ap (λ (o : Option Order). option_or o (order_with (first ∷ left) count)) before) ∙ placed count)
    (λ (f : first.count ≢ count).
    let here : get_or (set firsts first.count (Some first)) count None ≡ get_or firsts count None =
    get_or-set_other firsts first.count count (Some first) None (λ e. f (sym e)) in
    ap (λ (o : Option Order). option_or o (order_with left count)) here
    ∙ ap (λ (o : Option Order). option_or (get_or firsts count None) o) (sym (with_other first left count f))
    ∙ placed count)
    (cases_eq first.count count)

-- the order whose turn it is
next_left : (orders : List Order) (i : ℕ) (d order : Order) → i < length orders → get_or orders i d ≡ order
    → drop i orders ≡ order ∷ drop (i + 1) orders
next_left orders i d order l e = drop_more orders i d l ∙ ap (λ (o : Order). o ∷ drop (i + 1) orders) e

-- no order has a count above the greatest
below_last : (orders left : List Order) (order : Order) (i : ℕ) → drop i orders ≡ order ∷ left
    → order.count ≤ last_count orders
below_last [] left order i e = absurd (let q : [] ≡ order ∷ left = sym (drop-nil i) ∙ e in cc)
below_last (first ∷ orders) left order zero e =
    let q : first ≡ order = cc in
    subst (λ (o : Order). o.count ≤ max first.count (last_count orders)) q (omega arith)
below_last (first ∷ orders) left order (suc i) e = let b = below_last orders left order i e in omega arith

-- the table behind a call that writes to it
pub table_is : (n : ℕ) (firsts rest : List (Option Order)) → length firsts ≡ n → take n (firsts ++ rest) ≡ firsts
table_is n firsts rest same = ap (λ (k : ℕ). take k (firsts ++ rest)) (sym same) ∙ take-append_seam firsts rest

-- one step of the walk through the orders, as the code makes it
module _ (orders : List Order) (i : ℕ) (order : Order) (within : i < length orders)
    (is : order ≡ get_or orders i order) where
  turn : drop i orders ≡ order ∷ drop (i + 1) orders
  turn = next_left orders i order order within (sym is)

  pub place_below : (last : ℕ) (firsts : List (Option Order)) → last ≡ last_count orders → length firsts ≡ last + 1
      → order.count < length firsts
  place_below last firsts newest size = let b = below_last orders (drop (i + 1) orders) order i turn in omega arith

  module _ (firsts new : List (Option Order)) (below : order.count < length firsts)
      (first : get_or firsts order.count None ≡ None → new ≡ set firsts order.count (Some order))
      (later : IsSome (get_or firsts order.count None) → new ≡ firsts)
      (placed : ArePlaced orders firsts (drop i orders)) where
    before : ArePlaced orders firsts (order ∷ drop (i + 1) orders)
    before = subst (λ (left : List Order). ArePlaced orders firsts left) turn placed

    by : (found : Option Order) → get_or firsts order.count None ≡ found
        → (length new ≡ length firsts) × ArePlaced orders new (drop (i + 1) orders)
    by None e = rw (first e) (
      length-set firsts order.count (Some order),
      placed_more orders firsts order (drop (i + 1) orders) below e before,
    )
    by (Some other) e =
        let one : IsSome (get_or firsts order.count None) = subst IsSome (sym e) refl in
        rw (later one) (refl, placed_past orders firsts order (drop (i + 1) orders) one before)

    pub placed_by : (length new ≡ length firsts) × ArePlaced orders new (drop (i + 1) orders)
    placed_by = by (get_or firsts order.count None) refl
