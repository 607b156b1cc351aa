-- Orders by their count, and the climb from one to the next.
use Rattle.std.proofs.Common.{◌≡◌, ℕ, ◌+◌, ◌<◌, ◌≤◌, ◌==◌, min, max, true, false, List, [], ◌∷◌, ◌++◌, length, drop, get_or, Option, Some, None, refl, sym, ap, ◌∙◌, subst, arith, inl, inr, ⊎_elim}
use Rattle.std.specs.Prelude.{nat_lt, nat_le, ◌⊎◌, if◌then◌else◌}
use Rattle.std.proofs.lemmas.Bool.{cases_lt, cases_Bool, and_parts}
use Rattle.std.proofs.lemmas.List.{drop_more}
use Rattle.std.proofs.lemmas.Bool.Decides.{nat_tests}
use Rattle.ledger_spec.specs.declared.Order.{Order}
use Rattle.sync_advice.specs.Advice.{step_of, order_with, last_count, reaches, reached, follows, IsFar, Climbs}

-- an order that is found has the count that was looked for
pub with_count : (orders : List Order) (count : ℕ) (order : Order) → order_with orders count ≡ Some order → order.count ≡ count
with_count [] count order h = cc
with_count (first ∷ orders) count order h =
    ⊎_elim
    (λ (t : (first.count == count) ≡ true). let q : Some first ≡ Some order = rw t at h in let e : first ≡ order = cc in let c : first.count ≡ count = grind (arith, nat_tests) in subst (λ (o : Order). o.count ≡ count) e c)
    (λ (f : (first.count == count) ≡ false). with_count orders count order (rw f at h))
    (cases_Bool (first.count == count))

-- and is at most the greatest
pub with_below : (orders : List Order) (count : ℕ) (order : Order) → order_with orders count ≡ Some order → order.count ≤ last_count orders
with_below [] count order h = cc
with_below (first ∷ orders) count order h =
    ⊎_elim
    (λ (t : (first.count == count) ≡ true). let q : Some first ≡ Some order = rw t at h in let e : first ≡ order = cc in subst (λ (o : Order). o.count ≤ max first.count (last_count orders)) e (omega arith))
    (λ (f : (first.count == count) ≡ false). let b = with_below orders count order (rw f at h) in omega arith)
    (cases_Bool (first.count == count))

-- the greatest count is that of an order, or 0
pub last_listed : (orders : List Order) → (last_count orders ≡ 0) ⊎ ((order : Order) × (order_with orders (last_count orders) ≡ Some order))
last_listed [] = inl refl
last_listed (first ∷ orders) =
    ⊎_elim
    (λ (t : (first.count == max first.count (last_count orders)) ≡ true). inr (first, rw t refl))
    (λ (f : (first.count == max first.count (last_count orders)) ≡ false).
    let ne : first.count ≡ max first.count (last_count orders) → ⊥ = λ e. (let t : (first.count == max first.count (last_count orders)) ≡ true = grind (arith, nat_tests) in cc) in
    let same : max first.count (last_count orders) ≡ last_count orders = omega (arith, ne) in
    ⊎_elim
    (λ (z : last_count orders ≡ 0). inl (omega arith))
    (λ (p : (order : Order) × (order_with orders (last_count orders) ≡ Some order)).
    inr (p.0, rw f (ap (λ k. order_with orders k) same ∙ p.1)))
    (last_listed orders))
    (cases_Bool (first.count == max first.count (last_count orders)))

-- what the test of a step says
pub reach_parts : (limit from : ℕ) (order : Order) → reaches limit from order ≡ true → (from < order.count) × (order.count ≤ limit) × (order.count ≤ from + step_of order.value)
reach_parts limit from order h =
    let p = and_parts (nat_lt from order.count) (nat_le order.count (min limit (from + step_of order.value))) h in
    let a = p.0 in let b = p.1 in
    let x : from < order.count = grind (arith, nat_tests) in
    let y : order.count ≤ min limit (from + step_of order.value) = grind (arith, nat_tests) in
    (x, omega arith, omega arith)

pub reach_of : (limit from : ℕ) (order : Order) → from < order.count → order.count ≤ limit → order.count ≤ from + step_of order.value → reaches limit from order ≡ true
reach_of limit from order a b c =
    let y : order.count ≤ min limit (from + step_of order.value) = omega arith in
    let p : nat_lt from order.count ≡ true = grind (arith, nat_tests) in
    let q : nat_le order.count (min limit (from + step_of order.value)) ≡ true = grind (arith, nat_tests) in
    rw (p, q) refl

-- one step more at the end
pub climbs_more : (orders : List Order) (limit from to : ℕ) (list : List Order) (order : Order) → Climbs orders limit from list to → IsFar orders limit to order → Climbs orders limit from (list ++ order ∷ []) order.count
climbs_more orders limit from to [] order c f = (subst (λ k. IsFar orders limit k order) (sym c) f, refl)
climbs_more orders limit from to (first ∷ list) order c f = (c.0, climbs_more orders limit first.count to list order c.1 f)

-- the climb ends no lower
pub climbs_up : (orders : List Order) (limit from to : ℕ) (list : List Order) → Climbs orders limit from list to → from ≤ to
climbs_up orders limit from to [] c = omega arith
climbs_up orders limit from to (first ∷ list) c =
    let p = reach_parts limit from first c.0.reached_is in
    let a = p.0 in
    let b = climbs_up orders limit first.count to list c.1 in
    omega arith

-- one order on through the list
pub with_more : (orders : List Order) (i count : ℕ) (d : Order) → i < length orders → order_with (drop i orders) count ≡ (if (get_or orders i d).count == count then Some (get_or orders i d) else order_with (drop (i + 1) orders) count)
with_more orders i count d h = ap (λ os. order_with os count) (drop_more orders i d h)

pub last_more : (orders : List Order) (i : ℕ) (d : Order) → i < length orders → last_count (drop i orders) ≡ max (get_or orders i d).count (last_count (drop (i + 1) orders))
last_more orders i d h = ap last_count (drop_more orders i d h)

-- no order is taken that is too far above, or not above
pub not_within : (orders : List Order) (limit from n : ℕ) → (n ≤ from) ⊎ (min limit (from + 100) < n) → follows orders limit from n ≡ false
not_within orders limit from n out = by (order_with orders n) refl
  where
    by : (found : Option Order) → order_with orders n ≡ found → reached limit from found ≡ false
    by None e = refl
    by (Some order) e =
        let c = with_count orders n order e in
        ⊎_elim
        (λ (t : reaches limit from order ≡ true).
        let p = reach_parts limit from order t in
        let a = p.0 in let b = p.1 in let d = p.2 in
        let s : step_of order.value ≤ 100 = ⊎_elim (λ (x : (order.value == 999) ≡ true). rw x (omega arith)) (λ (x : (order.value == 999) ≡ false). rw x (omega arith)) (cases_Bool (order.value == 999)) in
        absurd (⊎_elim (λ (l : n ≤ from). omega arith) (λ (l : min limit (from + 100) < n). omega arith) out))
        (λ (f : reaches limit from order ≡ false). f)
        (cases_Bool (reaches limit from order))

-- the greatest count from which a step leads is the farthest
pub far_is : (orders : List Order) (limit from count : ℕ) (order : Order) → order_with orders count ≡ Some order → reaches limit from order ≡ true
    → ((n : ℕ) → count < n → follows orders limit from n ≡ false) → IsFar orders limit from order
far_is orders limit from count order listed r above =
    let same = with_count orders count order listed in
    record {
      listed = ap (λ k. order_with orders k) same ∙ listed;
      reached_is = r;
      greatest = λ n f. ⊎_elim
          (λ (l : count < n). let no = above n l in absurd (let x : true ≡ false = sym f ∙ no in cc))
          (λ (l : n ≤ count). omega arith)
          (cases_lt count n);
    }
