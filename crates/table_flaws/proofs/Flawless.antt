-- Tables in order are sound exactly where nothing is wrong in them.
use Rattle.std.proofs.Common.{◌≡◌, ℕ, ◌+◌, ◌%◌, ◌<◌, ◌≤◌, List, [], ◌∷◌, ◌++◌, filter, Bool, true, false, ◌&&◌, ◌==◌, inl, inr, Some, None, cond, nat_lt, refl, sym, ap, subst, ◌∙◌, arith}
use Rattle.std.specs.Prelude.{nat_le, find}
use Rattle.std.specs.List.{AllByRecursion, flat_map}
use Rattle.std.proofs.lemmas.Bool.{and_parts, and_from, ltb-true, lt-ltb, leb-true, le-leb, eqb-true, eq-eqb}
use Rattle.paygo_spec.specs.Chain.{token_at}
use Rattle.paygo_spec.specs.Searched.{IsClean}
use Rattle.ledger_spec.specs.declared.Row.{Row}
use Rattle.ledger_spec.specs.declared.Order.{Order}
use Rattle.ledger_spec.specs.declared.PriceChange.{PriceChange}
use Rattle.ledger_spec.specs.declared.Kind.{Kind}
use Rattle.ledger_spec.specs.declared.Kind.TheVariants as kind_is
use Rattle.table_flaws.specs.declared.flaw.Flaw.{Flaw}
use Rattle.table_flaws.specs.declared.flaw.Flaw.TheVariants as flaw_is
use Rattle.ledger_spec.specs.Putting.{put_among, sorted_by}
use Rattle.ledger_spec.specs.Sorted.{is_for, all_rows, row_before}
use Rattle.ledger_spec.specs.Tables.{Tables, has_id, has_serial, row_of, order_of, row_in, order_in, prices_for, AreRows, AreOrders, Kept}
use Rattle.ledger_spec.specs.Issuing.{is_clean, parity_of}
use Rattle.ledger_spec.specs.Replay.{Account, Booked, booked, account_of, account_after, AreBooked, FallBelow, price_by, orders_back, IsReplayed}
use Rattle.table_flaws.specs.Flaws.{same_kind, may_have, same_truth, same_account, is_booked, unless, order_flaws, orders_flaws, changes_flaws, flaws_by, row_flaws, flaws}
use Rattle.ledger_spec.proofs.NameLemmas.{same_is, is_same, self_same, same_or_not}
use Rattle.ledger_spec.proofs.Lookups.{found_serial}
use Rattle.ledger_spec.proofs.SortedLemmas.{all_sorted}
use Rattle.ledger_spec.proofs.KeptLemmas.{some_is, order_kept}
use Rattle.ledger_spec.specs.Sound.{Sound}
use Rattle.ledger_laws.proofs.ReplayLemmas.{falls_from}
use Rattle.ledger_laws.proofs.Laws.{clean_is}

-- ---- tests, and what they say

same_kind_is : (a b : Kind) → same_kind a b ≡ true → a ≡ b
same_kind_is kind_is.Add kind_is.Add is = refl
same_kind_is kind_is.Set kind_is.Set is = refl
same_kind_is kind_is.Disable kind_is.Disable is = refl
same_kind_is kind_is.Sync kind_is.Sync is = refl
same_kind_is kind_is.Add kind_is.Set is = cc
same_kind_is kind_is.Add kind_is.Disable is = cc
same_kind_is kind_is.Add kind_is.Sync is = cc
same_kind_is kind_is.Set kind_is.Add is = cc
same_kind_is kind_is.Set kind_is.Disable is = cc
same_kind_is kind_is.Set kind_is.Sync is = cc
same_kind_is kind_is.Disable kind_is.Add is = cc
same_kind_is kind_is.Disable kind_is.Set is = cc
same_kind_is kind_is.Disable kind_is.Sync is = cc
same_kind_is kind_is.Sync kind_is.Add is = cc
same_kind_is kind_is.Sync kind_is.Set is = cc
same_kind_is kind_is.Sync kind_is.Disable is = cc

kind_self : (a : Kind) → same_kind a a ≡ true
kind_self kind_is.Add = refl
kind_self kind_is.Set = refl
kind_self kind_is.Disable = refl
kind_self kind_is.Sync = refl

is_same_kind : (a b : Kind) → a ≡ b → same_kind a b ≡ true
is_same_kind a b is = subst (λ (k : Kind). same_kind a k ≡ true) is (kind_self a)

may_says : (kind : Kind) (value : ℕ) → may_have kind value ≡ true → kind ≡ kind_is.Add → value ≤ 995
may_says kind_is.Add value may is = leb-true value 995 may
may_says kind_is.Set value may is = cc
may_says kind_is.Disable value may is = cc
may_says kind_is.Sync value may is = cc

says_may : (kind : Kind) (value : ℕ) → (kind ≡ kind_is.Add → value ≤ 995) → may_have kind value ≡ true
says_may kind_is.Add value units = le-leb value 995 (units refl)
says_may kind_is.Set value units = refl
says_may kind_is.Disable value units = refl
says_may kind_is.Sync value units = refl

same_truth_is : (a b : Bool) → same_truth a b ≡ true → a ≡ b
same_truth_is true b is = sym is
same_truth_is false true is = cc
same_truth_is false false is = refl

truth_self : (a : Bool) → same_truth a a ≡ true
truth_self true = refl
truth_self false = refl

abbrev account_with : ℕ → ℕ → Bool → Account
account_with paid rest closed = record { paid = paid; rest = rest; closed = closed }

account_from_parts : (a b : Account) → a.paid ≡ b.paid → a.rest ≡ b.rest → a.closed ≡ b.closed → a ≡ b
account_from_parts a b paid rest closed =
    ap (λ p. account_with p a.rest a.closed) paid ∙ ap (λ r. account_with b.paid r a.closed) rest ∙ ap (λ c. account_with b.paid b.rest c) closed

same_account_is : (a b : Account) → same_account a b ≡ true → a ≡ b
same_account_is a b is =
    let one = and_parts (a.paid == b.paid) ((a.rest == b.rest) && same_truth a.closed b.closed) is in
    let two = and_parts (a.rest == b.rest) (same_truth a.closed b.closed) one.1 in
    account_from_parts a b (eqb-true a.paid b.paid one.0) (eqb-true a.rest b.rest two.0) (same_truth_is a.closed b.closed two.1)

account_self : (a : Account) → same_account a a ≡ true
account_self a =
    and_from (a.paid == a.paid) ((a.rest == a.rest) && same_truth a.closed a.closed) (eq-eqb a.paid a.paid refl)
    (and_from (a.rest == a.rest) (same_truth a.closed a.closed) (eq-eqb a.rest a.rest refl) (truth_self a.closed))

is_same_account : (a b : Account) → a ≡ b → same_account a b ≡ true
is_same_account a b is = subst (λ (c : Account). same_account a c ≡ true) is (account_self a)

-- ---- lists without an element

none_unless : (test : Bool) (flaw : Flaw) → unless test flaw ≡ [] → test ≡ true
none_unless true flaw none = refl
none_unless false flaw none = cc

unless_none : (test : Bool) (flaw : Flaw) → test ≡ true → unless test flaw ≡ []
unless_none test flaw is = ap (λ b. unless b flaw) is

pub both_none : {X : Type 0} (xs ys : List X) → xs ++ ys ≡ [] → (xs ≡ []) × (ys ≡ [])
both_none [] ys none = (refl, none)
both_none (x ∷ xs) ys none = cc

none_both : {X : Type 0} (xs ys : List X) → xs ≡ [] → ys ≡ [] → xs ++ ys ≡ []
none_both xs ys one two = ap (λ zs. zs ++ ys) one ∙ two

each_none : {X : Type 0} (f : X → List Flaw) (xs : List X) → flat_map f xs ≡ [] → AllByRecursion (λ x. f x ≡ []) xs
each_none f [] none = tt
each_none f (x ∷ xs) none = let both = both_none (f x) (flat_map f xs) none in (both.0, each_none f xs both.1)

none_each : {X : Type 0} (f : X → List Flaw) (xs : List X) → AllByRecursion (λ x. f x ≡ []) xs → flat_map f xs ≡ []
none_each f [] all = refl
none_each f (x ∷ xs) all = none_both (f x) (flat_map f xs) all.0 (none_each f xs all.1)

-- ---- what holds of all elements

module _ {X : Type 0} (before : X → X → Bool) (P : X → Type 0) where
  all_unput : (x : X) (ys : List X) → AllByRecursion P (put_among before x ys) → P x × AllByRecursion P ys
  all_unput x [] all = (all.0, tt)
  all_unput x (y ∷ ys) all = (elim (before y x) as (λ b. AllByRecursion P (cond b (y ∷ put_among before x ys) (x ∷ y ∷ ys)) → P x × (P y × AllByRecursion P ys)) [
    | true ↦ λ all. let rest = all_unput x ys all.1 in (rest.0, (all.0, rest.1))
    | false ↦ λ all. (all.0, all.1)
  ]) all

  pub all_unsorted : (xs : List X) → AllByRecursion P (sorted_by before xs) → AllByRecursion P xs
  all_unsorted [] all = tt
  all_unsorted (x ∷ xs) all = let parts = all_unput x (sorted_by before xs) all in (parts.0, all_unsorted xs parts.1)

pub all_then : {X : Type 0} (P Q : X → Type 0) → ((x : X) → P x → Q x) → (xs : List X) → AllByRecursion P xs → AllByRecursion Q xs
all_then P Q goes [] all = tt
all_then P Q goes (x ∷ xs) all = (goes x all.0, all_then P Q goes xs all.1)

all_among : {X : Type 0} (P Q : X → Type 0) (q : X → Bool) → ((x : X) → q x ≡ true → P x → Q x) → (xs : List X) → AllByRecursion P xs → AllByRecursion Q (filter q xs)
all_among P Q q goes [] all = tt
all_among P Q q goes (x ∷ xs) all = (elim (q x) as (λ b. q x ≡ b → AllByRecursion Q (cond b (x ∷ filter q xs) (filter q xs))) [
  | true ↦ λ passes. (goes x passes all.0, all_among P Q q goes xs all.1)
  | false ↦ λ fails. all_among P Q q goes xs all.1
]) refl

one_of : {X : Type 0} (a b : X) → Some a ≡ Some b → a ≡ b
one_of a b is = cc

-- what holds of all elements holds of the one that is found
pub of_found : {X : Type 0} (P : X → Type 0) (p : X → Bool) (xs : List X) (x : X) → AllByRecursion P xs → find p xs ≡ Some x → P x
of_found P p [] x all is = cc
of_found P p (y ∷ ys) x all is = (elim (p y) as (λ b. cond b (Some y) (find p ys) ≡ Some x → P x) [
  | true ↦ λ is. subst (λ (z : _). P z) (one_of y x is) all.0
  | false ↦ λ is. of_found P p ys x all.1 is
]) is

-- and of the one that is found among those that pass another test, where it passes that
of_found_among : {X : Type 0} (P : X → Type 0) (p q : X → Bool) (xs : List X) (x : X) → AllByRecursion P (filter q xs) → find p xs ≡ Some x → q x ≡ true → P x
of_found_among P p q [] x all is passes = cc
of_found_among P p q (y ∷ ys) x all is passes = (elim (p y) as (λ b. cond b (Some y) (find p ys) ≡ Some x → P x) [
  | true ↦ λ is.
      let one : y ≡ x = one_of y x is in
      let own : q y ≡ true = ap q one ∙ passes in
      subst (λ (z : _). P z) one (subst (λ b. AllByRecursion P (cond b (y ∷ filter q ys) (filter q ys))) own all).0
  | false ↦ λ is. of_found_among P p q ys x
      ((elim (q y) as (λ b. AllByRecursion P (cond b (y ∷ filter q ys) (filter q ys)) → AllByRecursion P (filter q ys)) [ true ↦ λ all. all.1 | false ↦ λ all. all ]) all)
      is passes
]) is

-- in rows in order each row is what its serial finds
own_rows : (rows : List Row) → AreRows rows → AllByRecursion (λ row. row_in rows row.serial ≡ Some row) rows
own_rows [] are = tt
own_rows (row ∷ rows) are = (
  ap (λ b. cond b (Some row) (row_in rows row.serial)) (self_same row.serial),
  all_then (λ r. row_in rows r.serial ≡ Some r) (λ r. row_in (row ∷ rows) r.serial ≡ Some r)
      (λ r is. elim (same_or_not row.serial r.serial) [
        | inl same ↦ let bad : None ≡ Some r = sym are.1 ∙ ap (λ s. row_in rows s) same ∙ is in cc
        | inr other ↦ ap (λ b. cond b (Some row) (row_in rows r.serial)) other ∙ is
      ]) rows (own_rows rows are.2),
)

-- and in orders in order each order is what its id finds
own_orders : (rows : List Row) (orders : List Order) → AreOrders rows orders → AllByRecursion (λ order. order_in orders order.id ≡ Some order) orders
own_orders rows [] are = tt
own_orders rows (order ∷ orders) are = (
  ap (λ b. cond b (Some order) (order_in orders order.id)) (self_same order.id),
  all_then (λ o. order_in orders o.id ≡ Some o) (λ o. order_in (order ∷ orders) o.id ≡ Some o)
      (λ o is. elim (same_or_not order.id o.id) [
        | inl same ↦ let bad : None ≡ Some o = sym are.1 ∙ ap (λ i. order_in orders i) same ∙ is in cc
        | inr other ↦ ap (λ b. cond b (Some order) (order_in orders o.id)) other ∙ is
      ]) orders (own_orders rows orders are.3),
)

-- ---- one row

-- What there is to an order beside its count's place and what it is booked as.
pub record IsRight (next : ℕ → ℕ) (start : ℕ) (order : Order) : Type 0 where
  pub parity : order.count % 2 ≡ parity_of order.kind
  pub token : order.token ≡ token_at next start order.value order.count
  pub clean : IsClean next start order.count order.value
  pub units : order.kind ≡ kind_is.Add → order.value ≤ 995

module _ (next price : ℕ → ℕ) (row : Row) where
  abbrev due_of : Order → List Order → Booked
  due_of order older = booked (price order.count) row.total order.ask (account_after price row.total older)

  -- What an order without a flaw is.
  pub record IsFlawless (bound : ℕ) (order : Order) (older : List Order) : Type 0 where
    pub below : order.count < bound
    pub right : IsRight next row.start order
    pub kind : order.kind ≡ (due_of order older).kind
    pub value : order.value ≡ (due_of order older).value

  no_flaw : (bound : ℕ) (order : Order) (older : List Order) → order_flaws next price row bound order older ≡ [] → IsFlawless bound order older
  no_flaw bound order older none =
      let one = both_none (unless (nat_lt order.count bound) (flaw_is.Count order.id)) _ none in
      let two = both_none (unless (order.count % 2 == parity_of order.kind) (flaw_is.Parity order.id)) _ one.1 in
      let three = both_none (unless (token_at next row.start order.value order.count == order.token) (flaw_is.Token order.id)) _ two.1 in
      let four = both_none (unless (is_clean next row.start order.value order.count) (flaw_is.Shared order.id)) _ three.1 in
      let booked_is = none_unless (is_booked (due_of order older) order) (flaw_is.Booked order.id) four.1 in
      let kinds = and_parts (same_kind order.kind (due_of order older).kind) ((order.value == (due_of order older).value) && may_have order.kind order.value) booked_is in
      let values = and_parts (order.value == (due_of order older).value) (may_have order.kind order.value) kinds.1 in
      record {
        below = ltb-true order.count bound (none_unless (nat_lt order.count bound) (flaw_is.Count order.id) one.0);
        right = record {
          parity = eqb-true (order.count % 2) (parity_of order.kind) (none_unless (order.count % 2 == parity_of order.kind) (flaw_is.Parity order.id) two.0);
          token = sym (eqb-true (token_at next row.start order.value order.count) order.token (none_unless (token_at next row.start order.value order.count == order.token) (flaw_is.Token order.id) three.0));
          clean = (clean_is next row.start order.value order.count).0 (none_unless (is_clean next row.start order.value order.count) (flaw_is.Shared order.id) four.0);
          units = may_says order.kind order.value values.1;
        };
        kind = same_kind_is order.kind (due_of order older).kind kinds.0;
        value = eqb-true order.value (due_of order older).value values.0;
      }

  flaw_none : (bound : ℕ) (order : Order) (older : List Order) → IsFlawless bound order older → order_flaws next price row bound order older ≡ []
  flaw_none bound order older is =
      none_both _ _ (unless_none (nat_lt order.count bound) (flaw_is.Count order.id) (lt-ltb order.count bound is.below))
      (none_both _ _ (unless_none (order.count % 2 == parity_of order.kind) (flaw_is.Parity order.id) (eq-eqb (order.count % 2) (parity_of order.kind) is.right.parity))
      (none_both _ _ (unless_none (token_at next row.start order.value order.count == order.token) (flaw_is.Token order.id) (eq-eqb (token_at next row.start order.value order.count) order.token (sym is.right.token)))
      (none_both _ _ (unless_none (is_clean next row.start order.value order.count) (flaw_is.Shared order.id) ((clean_is next row.start order.value order.count).1 is.right.clean))
      (unless_none (is_booked (due_of order older) order) (flaw_is.Booked order.id)
      (and_from (same_kind order.kind (due_of order older).kind) ((order.value == (due_of order older).value) && may_have order.kind order.value) (is_same_kind order.kind (due_of order older).kind is.kind)
      (and_from (order.value == (due_of order older).value) (may_have order.kind order.value) (eq-eqb order.value (due_of order older).value is.value) (says_may order.kind order.value is.right.units)))))))

  -- What orders without a flaw are.
  pub record AreFlawless (bound : ℕ) (orders : List Order) : Type 0 where
    pub falls : FallBelow bound orders
    pub booked_are : AreBooked price row.total orders
    pub right : AllByRecursion (IsRight next row.start) orders

  no_flaws : (bound : ℕ) (orders : List Order) → orders_flaws next price row bound orders ≡ [] → AreFlawless bound orders
  no_flaws bound [] none = record { falls = tt; booked_are = tt; right = tt }
  no_flaws bound (order ∷ older) none =
      let both = both_none (orders_flaws next price row order.count older) (order_flaws next price row bound order older) none in
      let one = no_flaw bound order older both.1 in
      let rest = no_flaws order.count older both.0 in
      record { falls = (one.below, rest.falls); booked_are = (one.kind, one.value, rest.booked_are); right = (one.right, rest.right) }

  flaws_none : (bound : ℕ) (orders : List Order) → AreFlawless bound orders → orders_flaws next price row bound orders ≡ []
  flaws_none bound [] are = refl
  flaws_none bound (order ∷ older) are =
      none_both (orders_flaws next price row order.count older) (order_flaws next price row bound order older)
      (flaws_none order.count older record { falls = are.falls.1; booked_are = are.booked_are.2; right = are.right.1 })
      (flaw_none bound order older record { below = are.falls.0; right = are.right.0; kind = are.booked_are.0; value = are.booked_are.1 })

changes_low : (row : Row) (changes : List PriceChange) → changes_flaws row changes ≡ [] → AllByRecursion (λ c. c.from ≤ row.last) changes
changes_low row [] none = tt
changes_low row (change ∷ changes) none =
    let both = both_none (unless (nat_le change.from row.last) (flaw_is.Price row.serial)) (changes_flaws row changes) none in
    (leb-true change.from row.last (none_unless (nat_le change.from row.last) (flaw_is.Price row.serial) both.0), changes_low row changes both.1)

low_changes : (row : Row) (changes : List PriceChange) → AllByRecursion (λ c. c.from ≤ row.last) changes → changes_flaws row changes ≡ []
low_changes row [] all = refl
low_changes row (change ∷ changes) all =
    none_both (unless (nat_le change.from row.last) (flaw_is.Price row.serial)) (changes_flaws row changes)
    (unless_none (nat_le change.from row.last) (flaw_is.Price row.serial) (le-leb change.from row.last all.0)) (low_changes row changes all.1)

-- What a row without a flaw is.
pub record IsFlawlessRow (next : ℕ → ℕ) (row : Row) (orders : List Order) (changes : List PriceChange) : Type 0 where
  pub replayed : IsReplayed orders changes row
  pub right : AllByRecursion (IsRight next row.start) orders

row_no_flaw : (next : ℕ → ℕ) (row : Row) (orders : List Order) (changes : List PriceChange) → flaws_by next row orders changes ≡ [] → IsFlawlessRow next row orders changes
row_no_flaw next row orders changes none =
    let one = both_none (orders_flaws next (price_by changes row) row (row.last + 1) orders) _ none in
    let two = both_none (changes_flaws row changes) _ one.1 in
    let are = no_flaws next (price_by changes row) row (row.last + 1) orders one.0 in
    record {
      replayed = record {
        falls = are.falls;
        froms = changes_low row changes two.0;
        booked = are.booked_are;
        account = same_account_is (account_after (price_by changes row) row.total orders) (account_of row) (none_unless (same_account (account_after (price_by changes row) row.total orders) (account_of row)) (flaw_is.Account row.serial) two.1);
      };
      right = are.right;
    }

row_flaw_none : (next : ℕ → ℕ) (row : Row) (orders : List Order) (changes : List PriceChange) → IsFlawlessRow next row orders changes → flaws_by next row orders changes ≡ []
row_flaw_none next row orders changes is =
    none_both (orders_flaws next (price_by changes row) row (row.last + 1) orders) _
    (flaws_none next (price_by changes row) row (row.last + 1) orders record { falls = is.replayed.falls; booked_are = is.replayed.booked; right = is.right })
    (none_both (changes_flaws row changes) _ (low_changes row changes is.replayed.froms)
    (unless_none (same_account (account_after (price_by changes row) row.total orders) (account_of row)) (flaw_is.Account row.serial) (is_same_account (account_after (price_by changes row) row.total orders) (account_of row) is.replayed.account)))

-- ---- all tables

below_all : (bound : ℕ) (orders : List Order) → FallBelow bound orders → AllByRecursion (λ o. o.count < bound) orders
below_all bound [] falls = tt
below_all bound (order ∷ orders) falls = let low : order.count < bound = falls.0 in (low, below_all bound orders (falls_from order.count bound orders (omega arith) falls.1))

-- of falling orders of a device each count has one
module _ (serial : List ℕ) where
  for_own : (order : Order) → order.serial ≡ serial → is_for serial order ≡ true
  for_own order own = is_same order.serial serial own

  -- the first of them, with its count, isn't found behind it
  first_alone : (order : Order) (orders : List Order) (id : List ℕ) (other : Order) → FallBelow order.count (filter (is_for serial) orders) → order_in orders id ≡ Some other → other.serial ≡ serial → order.count ≡ other.count → ⊥
  first_alone order orders id other falls is own same =
      let low : other.count < order.count = of_found_among (λ o. o.count < order.count) (has_id id) (is_for serial) orders other (below_all order.count (filter (is_for serial) orders) falls) is (for_own other own) in
      absurd (omega arith)

  counts_alone : (bound : ℕ) (orders : List Order) (id other : List ℕ) (a b : Order) → FallBelow bound (filter (is_for serial) orders) → order_in orders id ≡ Some a → order_in orders other ≡ Some b
      → a.serial ≡ serial → b.serial ≡ serial → a.count ≡ b.count → a ≡ b
  counts_alone bound [] id other a b falls is too own own2 same = cc
  counts_alone bound (order ∷ orders) id other a b falls is too own own2 same =
      let behind : order.serial ≡ serial → FallBelow order.count (filter (is_for serial) orders) = λ mine. (subst (λ t. FallBelow bound (cond t (order ∷ filter (is_for serial) orders) (filter (is_for serial) orders))) (for_own order mine) falls).1 in
      elim (same_or_not order.id id) [
        | inl first ↦
            let it : order ≡ a = one_of order a (sym (ap (λ t. cond t (Some order) (order_in orders id)) (is_same order.id id first)) ∙ is) in
            elim (same_or_not order.id other) [
              | inl second ↦ sym it ∙ one_of order b (sym (ap (λ t. cond t (Some order) (order_in orders other)) (is_same order.id other second)) ∙ too)
              | inr not2 ↦
                  let later : order_in orders other ≡ Some b = sym (ap (λ t. cond t (Some order) (order_in orders other)) not2) ∙ too in
                  absurd (first_alone order orders other b (behind (ap (λ (o : Order). o.serial) it ∙ own)) later own2 (ap (λ (o : Order). o.count) it ∙ same))
            ]
        | inr not1 ↦
            let later : order_in orders id ≡ Some a = sym (ap (λ t. cond t (Some order) (order_in orders id)) not1) ∙ is in
            elim (same_or_not order.id other) [
              | inl second ↦
                  let it : order ≡ b = one_of order b (sym (ap (λ t. cond t (Some order) (order_in orders other)) (is_same order.id other second)) ∙ too) in
                  absurd (first_alone order orders id a (behind (ap (λ (o : Order). o.serial) it ∙ own2)) later own (ap (λ (o : Order). o.count) it ∙ sym same))
              | inr not2 ↦
                  let later2 : order_in orders other ≡ Some b = sym (ap (λ t. cond t (Some order) (order_in orders other)) not2) ∙ too in
                  (elim (is_for serial order) as (λ t. FallBelow bound (cond t (order ∷ filter (is_for serial) orders) (filter (is_for serial) orders)) → a ≡ b) [
                    | true ↦ λ falls. counts_alone order.count orders id other a b falls.1 later later2 own own2 same
                    | false ↦ λ falls. counts_alone bound orders id other a b falls later later2 own own2 same
                  ]) falls
            ]
      ]

module _ (next : List ℕ → ℕ → ℕ) (t : Tables) (kept : Kept t) where
  abbrev FlawlessRow : Row → Type 0
  FlawlessRow row = IsFlawlessRow (next row.key) row (orders_back t row.serial) (prices_for t row.serial)

  own_row : (id : List ℕ) (order : Order) → order_of t id ≡ Some order → (row : Row) × (row_of t order.serial ≡ Some row)
  own_row id order is = some_is (row_of t order.serial) (order_kept t.rows t.orders id order kept.orders is).1

  rows_flawless : flaws next t ≡ [] → (serial : List ℕ) (row : Row) → row_of t serial ≡ Some row → FlawlessRow row
  rows_flawless none serial row is =
      let all : AllByRecursion (λ r. row_flaws next t r ≡ []) t.rows = all_unsorted row_before (λ r. row_flaws next t r ≡ []) t.rows (each_none (row_flaws next t) (all_rows t) none) in
      row_no_flaw (next row.key) row (orders_back t row.serial) (prices_for t row.serial) (of_found (λ r. row_flaws next t r ≡ []) (has_serial serial) t.rows row all is)

  pub flawless_sound : flaws next t ≡ [] → Sound next t
  flawless_sound none = record {
    kept = kept;
    issued = λ id order row is row_is.
        let own : row.serial ≡ order.serial = found_serial t.rows order.serial row row_is in
        let here : FlawlessRow row = rows_flawless none order.serial row row_is in
        let mine : is_for row.serial order ≡ true = is_same order.serial row.serial (sym own) in
        let right : IsRight (next row.key) row.start order = of_found_among (IsRight (next row.key) row.start) (has_id id) (is_for row.serial) t.orders order here.right is mine in
        let low : order.count < row.last + 1 = of_found_among (λ o. o.count < row.last + 1) (has_id id) (is_for row.serial) t.orders order (below_all (row.last + 1) (orders_back t row.serial) here.replayed.falls) is mine in
        record { count = omega arith; parity = right.parity; token = right.token; clean = right.clean; units = right.units };
    counts = λ id other order second is too serial count.
        let row = own_row id order is in
        let own : row.0.serial ≡ order.serial = found_serial t.rows order.serial row.0 row.1 in
        let here : FlawlessRow row.0 = rows_flawless none order.serial row.0 row.1 in
        counts_alone row.0.serial (row.0.last + 1) t.orders id other order second here.replayed.falls is too (sym own) (sym serial ∙ sym own) count;
    replayed = λ serial row is.
        let own : row.serial ≡ serial = found_serial t.rows serial row is in
        subst (λ (s : List ℕ). IsReplayed (orders_back t s) (prices_for t s) row) own (rows_flawless none serial row is).replayed;
  }

  orders_right : Sound next t → (row : Row) → row_of t row.serial ≡ Some row → AllByRecursion (IsRight (next row.key) row.start) (orders_back t row.serial)
  orders_right sound row is = all_among (λ o. order_in t.orders o.id ≡ Some o) (IsRight (next row.key) row.start) (is_for row.serial)
      (λ o mine own.
      let issued = sound.issued o.id o row own (ap (λ s. row_of t s) (same_is o.serial row.serial mine) ∙ is) in
      record { parity = issued.parity; token = issued.token; clean = issued.clean; units = issued.units })
      t.orders (own_orders t.rows t.orders kept.orders)

  rows_sound : Sound next t → AllByRecursion (λ row. row_flaws next t row ≡ []) t.rows
  rows_sound sound = all_then (λ row. row_in t.rows row.serial ≡ Some row) (λ row. row_flaws next t row ≡ [])
      (λ row is. row_flaw_none (next row.key) row (orders_back t row.serial) (prices_for t row.serial) record { replayed = sound.replayed row.serial row is; right = orders_right sound row is })
      t.rows (own_rows t.rows kept.rows)

  pub sound_flawless : Sound next t → flaws next t ≡ []
  sound_flawless sound = none_each (row_flaws next t) (all_rows t) (all_sorted row_before (λ row. row_flaws next t row ≡ []) t.rows (rows_sound sound))

pub flawless_is : (next : List ℕ → ℕ → ℕ) (t : Tables) → Kept t → (flaws next t ≡ [] → Sound next t) × (Sound next t → flaws next t ≡ [])
flawless_is next t kept = (flawless_sound next t kept, sound_flawless next t kept)
