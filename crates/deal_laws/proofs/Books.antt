-- A book and the history of its device.
use Rattle.std.proofs.Common.{◌≡◌, ℕ, ◌+◌, ◌<◌, ◌≤◌, min, max, true, false, ◌==◌, ◌&&◌, ◌||◌, nat_le, nat_lt, if◌then◌else◌, ◌⊎◌, inl, inr, ⊎_elim, List, [], ◌∷◌, is_some, refl, sym, ap, subst, ◌∙◌, arith}
use Rattle.std.proofs.lemmas.Bool.{cases_Bool}
use Rattle.std.proofs.lemmas.Bool.Decides.{nat_tests}
use Rattle.paygo_spec.specs.declared.Config.{Config}
use Rattle.paygo_spec.specs.declared.Entry.{Entry}
use Rattle.paygo_spec.specs.declared.Entry.TheVariants as entry_is
use Rattle.paygo_spec.specs.Chain.{token_at}
use Rattle.paygo_spec.specs.Clock.{ClockView, clock_of, taken_by, after_bad, clock_after}
use Rattle.paygo_spec.specs.History.{fresh, kind_of, top, limit_of, spent, reach, Valid}
use Rattle.paygo_spec.specs.Layout.{Position}
use Rattle.paygo_spec.specs.Machine.{History, Stored, Blank, Journal}
use Rattle.ledger_spec.specs.declared.Order.{Order}
use Rattle.deal_spec.specs.Deal.{Item, Sold, Accepted, Failed, Passed, Raised, Has, newest, limit, used, is_odd, is_known, IsFresh, Clock, clock, after_token}

-- What the device keeps of a book, and what the shop keeps of it.
abbrev pub entries_of : List Item → List Entry
entries_of [] = []
entries_of (Sold order ∷ book) = entries_of book
entries_of (Accepted n v t ∷ book) = entry_is.Accept n v ∷ entries_of book
entries_of (Failed t ∷ book) = entry_is.Bad ∷ entries_of book
entries_of (Passed s ∷ book) = entry_is.Elapsed s ∷ entries_of book
entries_of (Raised ∷ book) = entry_is.Raised ∷ entries_of book

abbrev pub orders_of : List Item → List Order
orders_of [] = []
orders_of (Sold order ∷ book) = order ∷ orders_of book
orders_of (_ ∷ book) = orders_of book

-- Each accepted token of a book is that of its count and value.
abbrev pub AreTokens : (ℕ → ℕ) → ℕ → List Item → Type 0
AreTokens next start [] = Unit {0}
AreTokens next start (Accepted n v t ∷ book) = (t ≡ token_at next start v n) × AreTokens next start book
AreTokens next start (_ ∷ book) = AreTokens next start book

-- The device of a book.
abbrev pub device_of : Config → List Item → Position → History
device_of config book at = record { config = config; start = fresh; entries = entries_of book; at = at }

-- No device was made, and nothing became of it; or it is that of the book.
abbrev pub IsHistory : Config → List Item → Stored → Type 0
IsHistory config book stored =
    ((stored ≡ Blank) × (entries_of book ≡ [])) ⊎ ((at : Position) × (stored ≡ Journal (device_of config book at)))

-- the counts
pub newest_is : (book : List Item) → newest book ≡ top fresh (entries_of book)
newest_is [] = refl
newest_is (Sold order ∷ book) = newest_is book
newest_is (Accepted n v t ∷ book) = ap (max n) (newest_is book)
newest_is (Failed t ∷ book) = newest_is book
newest_is (Passed s ∷ book) = newest_is book
newest_is (Raised ∷ book) = newest_is book

pub limit_is : (book : List Item) → limit book ≡ limit_of fresh (entries_of book)
limit_is [] = refl
limit_is (Sold order ∷ book) = limit_is book
limit_is (Accepted n v t ∷ book) = limit_is book
limit_is (Failed t ∷ book) = limit_is book
limit_is (Passed s ∷ book) = limit_is book
limit_is (Raised ∷ book) = refl

pub used_is : (book : List Item) (n : ℕ) → 1 ≤ n → used book n ≡ spent fresh (entries_of book) n
used_is [] n first = let low : nat_le n 0 ≡ false = grind (arith, nat_tests) in rw low refl
used_is (Sold order ∷ book) n first = used_is book n first
used_is (Accepted m v t ∷ book) n first = ap (λ b. (n == m || (is_odd m && nat_lt n m)) || b) (used_is book n first)
used_is (Failed t ∷ book) n first = used_is book n first
used_is (Passed s ∷ book) n first = used_is book n first
used_is (Raised ∷ book) n first = used_is book n first

reach_is : (book : List Item) (v : ℕ) → min (limit book) (newest book + (if v == 999 then 100 else 64)) ≡ reach fresh (entries_of book) v
reach_is book v =
    ap (λ l. min l (newest book + (if v == 999 then 100 else 64))) (limit_is book)
    ∙ ap (λ t. min (limit_of fresh (entries_of book)) (t + (if v == 999 then 100 else 64))) (newest_is book)

says_is : (n v : ℕ) → is_known n v ≡ is_some (kind_of n v)
says_is n v =
    ⊎_elim
    (λ (h : nat_le v 995 ≡ true). ⊎_elim (λ (o : is_odd n ≡ true). rw (h, o) refl) (λ (o : is_odd n ≡ false). rw (h, o) refl) (cases_Bool (is_odd n)))
    (λ (h : nat_le v 995 ≡ false). ⊎_elim
    (λ (o : is_odd n ≡ true). ⊎_elim
    (λ (a : (v == 998) ≡ true). rw (h, o, a) refl)
    (λ (a : (v == 998) ≡ false). ⊎_elim (λ (b : (v == 999) ≡ true). rw (h, o, a, b) refl) (λ (b : (v == 999) ≡ false). rw (h, o, a, b) refl) (cases_Bool (v == 999)))
    (cases_Bool (v == 998)))
    (λ (o : is_odd n ≡ false). rw (h, o) refl)
    (cases_Bool (is_odd n)))
    (cases_Bool (nat_le v 995))

pub valid_of : (book : List Item) (n v : ℕ) → IsFresh book n v → Valid fresh (entries_of book) n v
valid_of book n v is = (
  is.first,
  subst (λ (r : ℕ). n ≤ r) (reach_is book v) is.reach,
  sym (says_is n v) ∙ is.known,
  ⊎_elim
      (λ odd. inl (odd.0, subst (λ (t : ℕ). t < n) (newest_is book) odd.1))
      (λ even. inr (even.0, subst (λ (t : ℕ). t < n + 16) (newest_is book) even.1, sym (used_is book n is.first) ∙ even.2))
      is.unused,
)

pub fresh_of : (book : List Item) (n v : ℕ) → Valid fresh (entries_of book) n v → IsFresh book n v
fresh_of book n v is = record {
  first = is.0;
  reach = subst (λ (r : ℕ). n ≤ r) (sym (reach_is book v)) is.1;
  known = says_is n v ∙ is.2;
  unused = ⊎_elim
      (λ odd. inl (odd.0, subst (λ (t : ℕ). t < n) (sym (newest_is book)) odd.1))
      (λ even. inr (even.0, subst (λ (t : ℕ). t < n + 16) (sym (newest_is book)) even.1, used_is book n is.0 ∙ even.2))
      is.3;
}

-- the clock
abbrev pub view : Clock → ClockView
view c = record { left = c.left; free = c.free; fails = c.fails; block = c.block }

token_same : (unit n v : ℕ) (c : Clock) → view (after_token unit n v c) ≡ taken_by unit (kind_of n v) v (view c)
token_same unit n v c =
    ⊎_elim
    (λ (h : nat_le v 995 ≡ true). ⊎_elim
    (λ (o : is_odd n ≡ true). rw (h, o) refl)
    (λ (o : is_odd n ≡ false). ⊎_elim (λ (f : c.free ≡ true). rw (h, o, f) refl) (λ (f : c.free ≡ false). rw (h, o, f) refl) (cases_Bool c.free))
    (cases_Bool (is_odd n)))
    (λ (h : nat_le v 995 ≡ false). ⊎_elim
    (λ (o : is_odd n ≡ true). ⊎_elim
    (λ (a : (v == 998) ≡ true). rw (h, o, a) refl)
    (λ (a : (v == 998) ≡ false). ⊎_elim (λ (b : (v == 999) ≡ true). rw (h, o, a, b) refl) (λ (b : (v == 999) ≡ false). rw (h, o, a, b) refl) (cases_Bool (v == 999)))
    (cases_Bool (v == 998)))
    (λ (o : is_odd n ≡ false). rw (h, o) refl)
    (cases_Bool (is_odd n)))
    (cases_Bool (nat_le v 995))

pub clock_is : (unit : ℕ) (book : List Item) → view (clock unit book) ≡ clock_of unit fresh (entries_of book)
clock_is unit [] = refl
clock_is unit (Sold order ∷ book) = clock_is unit book
clock_is unit (Accepted n v t ∷ book) = token_same unit n v (clock unit book) ∙ ap (taken_by unit (kind_of n v) v) (clock_is unit book)
clock_is unit (Failed t ∷ book) = ap after_bad (clock_is unit book)
clock_is unit (Passed s ∷ book) = ap (clock_after unit (entry_is.Elapsed s)) (clock_is unit book)
clock_is unit (Raised ∷ book) = clock_is unit book

pub left_is : (unit : ℕ) (book : List Item) → (clock unit book).left ≡ (clock_of unit fresh (entries_of book)).left
left_is unit book = ap (λ (c : ClockView). c.left) (clock_is unit book)

pub free_is : (unit : ℕ) (book : List Item) → (clock unit book).free ≡ (clock_of unit fresh (entries_of book)).free
free_is unit book = ap (λ (c : ClockView). c.free) (clock_is unit book)

pub fails_is : (unit : ℕ) (book : List Item) → (clock unit book).fails ≡ (clock_of unit fresh (entries_of book)).fails
fails_is unit book = ap (λ (c : ClockView). c.fails) (clock_is unit book)

pub block_is : (unit : ℕ) (book : List Item) → (clock unit book).block ≡ (clock_of unit fresh (entries_of book)).block
block_is unit book = ap (λ (c : ClockView). c.block) (clock_is unit book)

-- what the book has, its parts have
pub sold_has : (book : List Item) (order : Order) → Has book (Sold order) → Has (orders_of book) order
sold_has [] order has = absurd has
sold_has (Sold o ∷ book) order (inl e) = inl (let is : Sold order ≡ Sold o = e in cc)
sold_has (Sold o ∷ book) order (inr has) = inr (sold_has book order has)
sold_has (Accepted n v t ∷ book) order (inl e) = cc
sold_has (Accepted n v t ∷ book) order (inr has) = sold_has book order has
sold_has (Failed t ∷ book) order (inl e) = cc
sold_has (Failed t ∷ book) order (inr has) = sold_has book order has
sold_has (Passed s ∷ book) order (inl e) = cc
sold_has (Passed s ∷ book) order (inr has) = sold_has book order has
sold_has (Raised ∷ book) order (inl e) = cc
sold_has (Raised ∷ book) order (inr has) = sold_has book order has

pub has_sold : (book : List Item) (order : Order) → Has (orders_of book) order → Has book (Sold order)
has_sold [] order has = absurd has
has_sold (Sold o ∷ book) order (inl e) = inl (ap Sold e)
has_sold (Sold o ∷ book) order (inr has) = inr (has_sold book order has)
has_sold (Accepted n v t ∷ book) order has = inr (has_sold book order has)
has_sold (Failed t ∷ book) order has = inr (has_sold book order has)
has_sold (Passed s ∷ book) order has = inr (has_sold book order has)
has_sold (Raised ∷ book) order has = inr (has_sold book order has)

pub accepted_has : (book : List Item) (n v t : ℕ) → Has book (Accepted n v t) → Has (entries_of book) (entry_is.Accept n v)
accepted_has [] n v t has = absurd has
accepted_has (Sold o ∷ book) n v t (inl e) = cc
accepted_has (Sold o ∷ book) n v t (inr has) = accepted_has book n v t has
accepted_has (Accepted m w s ∷ book) n v t (inl e) = inl (let is : Accepted n v t ≡ Accepted m w s = e in cc)
accepted_has (Accepted m w s ∷ book) n v t (inr has) = inr (accepted_has book n v t has)
accepted_has (Failed s ∷ book) n v t (inl e) = cc
accepted_has (Failed s ∷ book) n v t (inr has) = inr (accepted_has book n v t has)
accepted_has (Passed s ∷ book) n v t (inl e) = cc
accepted_has (Passed s ∷ book) n v t (inr has) = inr (accepted_has book n v t has)
accepted_has (Raised ∷ book) n v t (inl e) = cc
accepted_has (Raised ∷ book) n v t (inr has) = inr (accepted_has book n v t has)

pub tokens_has : (next : ℕ → ℕ) (start : ℕ) (book : List Item) (n v t : ℕ) → AreTokens next start book → Has book (Accepted n v t) → t ≡ token_at next start v n
tokens_has next start [] n v t are has = absurd has
tokens_has next start (Sold o ∷ book) n v t are (inl e) = cc
tokens_has next start (Sold o ∷ book) n v t are (inr has) = tokens_has next start book n v t are has
tokens_has next start (Accepted m w s ∷ book) n v t are (inl e) = same_token n v t m w s e are.0
  where
    same_token : (n v t m w s : ℕ) → Accepted n v t ≡ Accepted m w s → s ≡ token_at next start w m → t ≡ token_at next start v n
    same_token n v t m w s e is = let a : n ≡ m = cc in let b : v ≡ w = cc in let c : t ≡ s = cc in c ∙ is ∙ ap (λ k. token_at next start w k) (sym a) ∙ ap (λ k. token_at next start k n) (sym b)
tokens_has next start (Accepted m w s ∷ book) n v t are (inr has) = tokens_has next start book n v t are.1 has
tokens_has next start (Failed s ∷ book) n v t are (inl e) = cc
tokens_has next start (Failed s ∷ book) n v t are (inr has) = tokens_has next start book n v t are has
tokens_has next start (Passed s ∷ book) n v t are (inl e) = cc
tokens_has next start (Passed s ∷ book) n v t are (inr has) = tokens_has next start book n v t are has
tokens_has next start (Raised ∷ book) n v t are (inl e) = cc
tokens_has next start (Raised ∷ book) n v t are (inr has) = tokens_has next start book n v t are has
