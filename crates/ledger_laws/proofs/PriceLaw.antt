-- The price at a count is that of the change with the greatest `from` below it.
use Rattle.std.proofs.Common.{◌≡◌, ℕ, ◌<◌, ◌≤◌, List, [], ◌∷◌, filter, true, false, inl, inr, ◌==◌, Some, None, cond, nat_lt, refl, sym, ap, subst, ◌∙◌, arith}
use Rattle.std.specs.Prelude.{find}
use Rattle.std.specs.List.{AllByRecursion}
use Rattle.std.proofs.lemmas.Bool.{lt-ltb, le-ltb, ltb-true, ltb-false, eqb-true, eq-eqb}
use Rattle.ledger_spec.specs.declared.Row.{Row}
use Rattle.ledger_spec.specs.declared.PriceChange.{PriceChange}
use Rattle.ledger_spec.specs.Putting.{put_among, sorted_by}
use Rattle.ledger_spec.specs.Tables.{Tables, Kept, AreChanges, change_of, change_in, change_before, is_change_of, has_from, prices_in, prices_for, price_among, price_at}
use Rattle.ledger_spec.proofs.NameLemmas.{same_or_not}
use Rattle.ledger_spec.proofs.SortedLemmas.{all_put}

-- The counts from which changes hold rise along the list.
abbrev pub Rises : List PriceChange → Type 0
Rises [] = Unit {0}
Rises (change ∷ changes) = AllByRecursion (λ c. change.from < c.from) changes × Rises changes

above_more : (low high : ℕ) (changes : List PriceChange) → low < high → AllByRecursion (λ c. high < c.from) changes → AllByRecursion (λ c. low < c.from) changes
above_more low high [] less all = tt
above_more low high (c ∷ cs) less all = let more : high < c.from = all.0 in (omega arith, above_more low high cs less all.1)

differ : (a b : ℕ) → (a == b) ≡ false → a ≡ b → ⊥
differ a b not is = let yes : (a == b) ≡ true = eq-eqb a b is in cc

put_rises : (change : PriceChange) (changes : List PriceChange) → Rises changes → find (has_from change.from) changes ≡ None → Rises (put_among change_before change changes)
put_rises change [] rises none = (tt, tt)
put_rises change (d ∷ ds) rises none = (elim (has_from change.from d) as (λ t. has_from change.from d ≡ t → cond t (Some d) (find (has_from change.from) ds) ≡ None → Rises (put_among change_before change (d ∷ ds))) [
  | true ↦ λ is bad. cc
  | false ↦ λ not rest. (elim (change_before d change) as (λ b. change_before d change ≡ b → Rises (cond b (d ∷ put_among change_before change ds) (change ∷ d ∷ ds))) [
    | true ↦ λ less. (all_put change_before (λ c. d.from < c.from) change ds (ltb-true d.from change.from less) rises.0, put_rises change ds rises.1 rest)
    | false ↦ λ more.
        let high : change.from ≤ d.from = ltb-false d.from change.from more in
        let other : d.from ≡ change.from → ⊥ = differ d.from change.from not in
        let less : change.from < d.from = grind arith in
        ((less, above_more change.from d.from ds less rises.0), rises)
  ]) refl
]) refl none

-- in tables in order the changes of a device rise
pub changes_rise : (rows : List Row) (changes : List PriceChange) (serial : List ℕ) → AreChanges rows changes → Rises (prices_in changes serial)
changes_rise rows [] serial are = tt
changes_rise rows (change ∷ changes) serial are = elim (same_or_not change.serial serial) [
  | inl same ↦
      let none : change_in changes serial change.from ≡ None = subst (λ s. change_in changes s change.from ≡ None) same are.1 in
      elim (is_change_of serial change) as (λ b. Rises (sorted_by change_before (cond b (change ∷ filter (is_change_of serial) changes) (filter (is_change_of serial) changes)))) [
        | true ↦ put_rises change (prices_in changes serial) (changes_rise rows changes serial are.3) none
        | false ↦ changes_rise rows changes serial are.3
      ]
  | inr other ↦ subst (λ b. Rises (sorted_by change_before (cond b (change ∷ filter (is_change_of serial) changes) (filter (is_change_of serial) changes)))) (sym other) (changes_rise rows changes serial are.3)
]

-- changes from the count on leave the price
none_below : (price count : ℕ) (changes : List PriceChange) → AllByRecursion (λ c. count ≤ c.from) changes → price_among price count changes ≡ price
none_below price count [] all = refl
none_below price count (c ∷ cs) all = ap (λ b. price_among (cond b c.price price) count cs) (le-ltb c.from count all.0) ∙ none_below price count cs all.1

all_later : (from count : ℕ) (changes : List PriceChange) → AllByRecursion (λ c. from < c.from) changes → AllByRecursion (λ c. c.from < count → c.from ≤ from) changes → AllByRecursion (λ c. count ≤ c.from) changes
all_later from count [] above upto = tt
all_later from count (c ∷ cs) above upto =
    let more : from < c.from = above.0 in
    let most : c.from < count → c.from ≤ from = upto.0 in
    (grind arith, all_later from count cs above.1 upto.1)

price_found : (price count from : ℕ) (change : PriceChange) (changes : List PriceChange) → Rises changes → find (has_from from) changes ≡ Some change → from < count → AllByRecursion (λ c. c.from < count → c.from ≤ from) changes → price_among price count changes ≡ change.price
price_found price count from change [] rises is below upto = cc
price_found price count from change (d ∷ ds) rises is below upto = (elim (has_from from d) as (λ t. has_from from d ≡ t → cond t (Some d) (find (has_from from) ds) ≡ Some change → price_among price count (d ∷ ds) ≡ change.price) [
  | true ↦ λ own found.
      let one : d ≡ change = cc in
      let here : d.from ≡ from = eqb-true d.from from own in
      let low : nat_lt d.from count ≡ true = lt-ltb d.from count (omega arith) in
      ap (λ b. price_among (cond b d.price price) count ds) low
      ∙ none_below d.price count ds (all_later from count ds (subst (λ n. AllByRecursion (λ c. n < c.from) ds) here rises.0) upto.1)
      ∙ ap (λ (c : PriceChange). c.price) one
  | false ↦ λ not found. price_found (cond (nat_lt d.from count) d.price price) count from change ds rises.1 found below upto.1
]) refl is

pub price_is : (t : Tables) (row : Row) (count from : ℕ) (change : PriceChange) → Kept t → change_of t row.serial from ≡ Some change → from < count → AllByRecursion (λ c. c.from < count → c.from ≤ from) (prices_for t row.serial) → price_at t row count ≡ change.price
price_is t row count from change kept is below upto = price_found row.price count from change (prices_for t row.serial) (changes_rise t.rows t.changes row.serial kept.changes) is below upto

pub price_stays : (t : Tables) (row : Row) (count : ℕ) → AllByRecursion (λ c. count ≤ c.from) (prices_for t row.serial) → price_at t row count ≡ row.price
price_stays t row count all = none_below row.price count (prices_for t row.serial) all
