-- The price at a count, when a change is added and while counts go on.
use Rattle.std.proofs.Common.{◌≡◌, ℕ, ◌+◌, ◌<◌, ◌≤◌, ◌^◌, List, [], ◌∷◌, filter, Bool, true, false, inl, inr, Some, None, cond, refl, sym, ap, ◌∙◌, nat_lt, arith}
use Rattle.std.specs.Prelude.{All, find}
use Rattle.std.specs.List.{AllByRecursion}
use Rattle.std.proofs.lemmas.Bool.{lt-ltb, le-ltb, eqb-true}
use Rattle.std.proofs.lemmas.List.Elements.{All-from_recursion}
use Rattle.ledger_spec.specs.declared.Row.{Row}
use Rattle.ledger_spec.specs.declared.PriceChange.{PriceChange}
use Rattle.ledger_spec.specs.Names.{same_name}
use Rattle.ledger_spec.specs.Putting.{put_among, sorted_by}
use Rattle.ledger_spec.specs.Tables.{Tables, AreChanges, ChangeIsInRange, RowIsInRange, Kept, change_before, is_change_of, prices_in, prices_for, has_from, change_in, price_among, price_at}
use Rattle.ledger_spec.proofs.NameLemmas.{same_or_not}
use Rattle.ledger_spec.proofs.SortedLemmas.{all_put, all_sorted, all_filtered, changes_in_range}

-- a change that doesn't hold at a count leaves its price, wherever it stands
price_put : (price count : ℕ) (change : PriceChange) (changes : List PriceChange) → nat_lt change.from count ≡ false → price_among price count (put_among change_before change changes) ≡ price_among price count changes
price_put price count change [] not = ap (λ b. cond b change.price price) not
price_put price count change (c ∷ cs) not = elim (change_before c change) as (λ b. price_among price count (cond b (c ∷ put_among change_before change cs) (change ∷ c ∷ cs)) ≡ price_among (cond (nat_lt c.from count) c.price price) count cs) [
  | true ↦ price_put (cond (nat_lt c.from count) c.price price) count change cs not
  | false ↦ ap (λ b. price_among (cond (nat_lt c.from count) c.price (cond b change.price price)) count cs) not
]

pub price_before : (price count : ℕ) (change : PriceChange) (changes : List PriceChange) (serial : List ℕ) → count ≤ change.from → price_among price count (prices_in (change ∷ changes) serial) ≡ price_among price count (prices_in changes serial)
price_before price count change changes serial low = elim (same_name change.serial serial) as (λ b. price_among price count (sorted_by change_before (cond b (change ∷ filter (is_change_of serial) changes) (filter (is_change_of serial) changes))) ≡ price_among price count (prices_in changes serial)) [
  | true ↦ price_put price count change (prices_in changes serial) (le-ltb change.from count low)
  | false ↦ refl
]

-- a change of another device's price leaves the changes of this one's
pub prices_other : (change : PriceChange) (changes : List PriceChange) (serial : List ℕ) → same_name change.serial serial ≡ false → prices_in (change ∷ changes) serial ≡ prices_in changes serial
prices_other change changes serial other = ap (λ b. sorted_by change_before (cond b (change ∷ filter (is_change_of serial) changes) (filter (is_change_of serial) changes))) other

-- where each change holds from a count at most the last one on, the price of each later count is that of the next one
pub price_later : (price last count : ℕ) (changes : List PriceChange) → AllByRecursion (λ c. c.from ≤ last) changes → last < count → price_among price count changes ≡ price_among price (last + 1) changes
price_later price last count [] all above = refl
price_later price last count (c ∷ cs) all above =
    let low : c.from ≤ last = all.0 in
    let one : nat_lt c.from count ≡ true = lt-ltb c.from count (omega arith) in
    let two : nat_lt c.from (last + 1) ≡ true = lt-ltb c.from (last + 1) (omega arith) in
    ap (λ b. price_among (cond b c.price price) count cs) one ∙ price_later c.price last count cs all.1 above ∙ sym (ap (λ b. price_among (cond b c.price price) (last + 1) cs) two)

-- each change stays within a last count when one more is put among them
pub froms_with : (last : ℕ) (change : PriceChange) (changes : List PriceChange) (serial : List ℕ) → change.from ≤ last → AllByRecursion (λ c. c.from ≤ last) (prices_in changes serial) → AllByRecursion (λ c. c.from ≤ last) (prices_in (change ∷ changes) serial)
froms_with last change changes serial low all = elim (same_name change.serial serial) as (λ b. AllByRecursion (λ c. c.from ≤ last) (sorted_by change_before (cond b (change ∷ filter (is_change_of serial) changes) (filter (is_change_of serial) changes)))) [
  | true ↦ all_put change_before (λ c. c.from ≤ last) change (prices_in changes serial) low all
  | false ↦ all
]

pub froms_later : (last now : ℕ) (changes : List PriceChange) → last ≤ now → AllByRecursion (λ c. c.from ≤ last) changes → AllByRecursion (λ c. c.from ≤ now) changes
froms_later last now [] later all = tt
froms_later last now (c ∷ cs) later all = let low : c.from ≤ last = all.0 in (omega arith, froms_later last now cs later all.1)

abbrev pub IsPrice : ℕ → Type 0
IsPrice price = (1 ≤ price) × (price ≤ 10 ^ 9)

-- every price is in range
pub price_good : (price count : ℕ) (changes : List PriceChange) → IsPrice price → AllByRecursion ChangeIsInRange changes → IsPrice (price_among price count changes)
price_good price count [] good all = good
price_good price count (c ∷ cs) good all =
    price_good (cond (nat_lt c.from count) c.price price) count cs (elim (nat_lt c.from count) as (λ b. IsPrice (cond b c.price price)) [ true ↦ all.0.price | false ↦ good ]) all.1

pub prices_in_range : (rows : List Row) (changes : List PriceChange) (serial : List ℕ) → AreChanges rows changes → AllByRecursion ChangeIsInRange (prices_in changes serial)
prices_in_range rows changes serial are = all_sorted change_before ChangeIsInRange (filter (is_change_of serial) changes) (all_filtered change_before ChangeIsInRange (is_change_of serial) changes (changes_in_range rows changes are))

pub price_in_range : (tables : Tables) (row : Row) (count : ℕ) → Kept tables → RowIsInRange row → IsPrice (price_at tables row count)
price_in_range tables row count kept in_range = price_good row.price count (prices_for tables row.serial) in_range.price (prices_in_range tables.rows tables.changes row.serial kept.changes)

-- the changes that are told are in range
pub told_changes_in_range : (rows : List Row) (changes : List PriceChange) (serial : List ℕ) → AreChanges rows changes → All ChangeIsInRange (prices_in changes serial)
told_changes_in_range rows changes serial are = All-from_recursion ChangeIsInRange (prices_in changes serial) (prices_in_range rows changes serial are)

-- what is found among others is found when one more is put there that doesn't pass
find_put : {X : Type 0} (p : X → Bool) (before : X → X → Bool) (x : X) (ys : List X) → p x ≡ false → find p (put_among before x ys) ≡ find p ys
find_put p before x [] not = ap (λ b. cond b (Some x) None) not
find_put p before x (y ∷ ys) not = elim (before y x) as (λ b. find p (cond b (y ∷ put_among before x ys) (x ∷ y ∷ ys)) ≡ cond (p y) (Some y) (find p ys)) [
  | true ↦ ap (λ r. cond (p y) (Some y) r) (find_put p before x ys not)
  | false ↦ ap (λ b. cond b (Some x) (cond (p y) (Some y) (find p ys))) not
]

-- a change that is kept is found when one more is added
pub change_stays : (new : PriceChange) (changes : List PriceChange) (serial : List ℕ) (from : ℕ) (change : PriceChange) → change_in changes new.serial new.from ≡ None → change_in changes serial from ≡ Some change → change_in (new ∷ changes) serial from ≡ Some change
change_stays new changes serial from change none is = elim (same_or_not new.serial serial) [
  | inl same ↦ (elim (has_from from new) as (λ t. has_from from new ≡ t → change_in (new ∷ changes) serial from ≡ Some change) [
    | true ↦ λ own.
        let count : new.from ≡ from = eqb-true new.from from own in
        let bad : None ≡ Some change = sym none ∙ ap (λ s. change_in changes s new.from) same ∙ ap (λ n. change_in changes serial n) count ∙ is in
        cc
    | false ↦ λ not. elim (same_name new.serial serial) as (λ b. find (has_from from) (sorted_by change_before (cond b (new ∷ filter (is_change_of serial) changes) (filter (is_change_of serial) changes))) ≡ Some change) [
      | true ↦ find_put (has_from from) change_before new (prices_in changes serial) not ∙ is
      | false ↦ is
    ]
  ]) refl
  | inr other ↦ ap (λ l. find (has_from from) l) (prices_other new changes serial other) ∙ is
]
