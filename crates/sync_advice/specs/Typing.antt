-- What becomes of a device into which tokens are typed one after the other.
use Rattle.std.specs.Prelude.{◌≡◌, ℕ, ◌^◌, ◌<◌, ◌≤◌, false, nat_lt, IsSome, List, [], ◌∷◌, length, Option, Some, None}
use Rattle.paygo_spec.specs.declared.Entry.{Entry}
use Rattle.paygo_spec.specs.declared.Entry.TheVariants.{Accept}
use Rattle.paygo_spec.specs.declared.Form.{Form}
use Rattle.paygo_spec.specs.Chain.{token_at}
use Rattle.paygo_spec.specs.Clock.{clock_of}
use Rattle.paygo_spec.specs.Digits.{digits_of}
use Rattle.paygo_spec.specs.History.{Summary, IsLimit, limit_of, top, kind_of}
use Rattle.paygo_spec.specs.Searched.{Searched, IsClean}
use Rattle.paygo_spec.specs.Snapshot.{bits_of}
use Rattle.paygo_spec.specs.Typed.{Typed, Makes, OldToken, typed}
use Rattle.ledger_spec.specs.declared.Order.{Order}
use Rattle.sync_advice.specs.Advice.{order_with, last_count}

-- What was made of an entry, as the history after it: a token was accepted, or is old. None where it was anything else: a
-- bad entry, one of the wrong length, with a wrong digit, or while entries are blocked.
abbrev pub taken : Typed → List Entry → Option (List Entry)
taken (Makes (Accept count value)) entries = Some (Accept count value ∷ entries)
taken OldToken entries = Some entries
taken _ entries = None

-- The history after the token of an order was typed.
abbrev pub taken_order : (ℕ → ℕ) → ℕ → ℕ → Form → Summary → Order → Option (List Entry) → Option (List Entry)
taken_order next start unit form origin order None = None
taken_order next start unit form origin order (Some entries) =
    taken (typed next start unit form origin entries (digits_of form order.token)) entries

-- The history after the tokens of these orders were typed, in their order.
abbrev pub typed_all : (ℕ → ℕ) → ℕ → ℕ → Form → Summary → Option (List Entry) → List Order → Option (List Entry)
typed_all next start unit form origin state [] = state
typed_all next start unit form origin state (order ∷ orders) =
    typed_all next start unit form origin (taken_order next start unit form origin order state) orders

-- An order as the shop issues it: its token is that of its count and value, no other count up to it, nor up to 4,095, has
-- it, the token does something, and the count is at most the limit of the row.
pub record IsSold (next : ℕ → ℕ) (start limit : ℕ) (order : Order) : Type 0 where
  pub token : order.token ≡ token_at next start order.value order.count
  pub clean : IsClean next start order.count order.value
  pub few : order.value < 1000
  pub first : 1 ≤ order.count
  pub limited : order.count ≤ limit
  pub effect : IsSome (kind_of order.count order.value)
  pub small : order.token < 10 ^ 9

-- So is each of these orders.
abbrev pub AreSold : (ℕ → ℕ) → ℕ → ℕ → List Order → Type 0
AreSold next start limit orders =
    (count : ℕ) (order : Order) → order_with orders count ≡ Some order → IsSold next start limit order

-- A device that the advice is for: its history is one that a device can have, each accepted token was found by its search,
-- its last count is at least the floor and at most the greatest count that was issued, its limit is at least that of the
-- row, and no entry is blocked.
pub record IsFitting (next : ℕ → ℕ) (start unit limit floor last : ℕ) (origin : Summary) (entries : List Entry) : Type 0 where
  pub searched : Searched next start unit origin entries
  pub low : floor ≤ top origin entries
  pub high : top origin entries ≤ last
  pub limit_is : limit ≤ limit_of origin entries
  pub unblocked : (clock_of unit origin entries).block ≡ 0

-- The device of which no more is known than its last count, and which is furthest behind: every count up to it is used.
abbrev pub behind : ℕ → ℕ → Summary
behind limit floor =
    record { limit = limit; last = floor; bits = bits_of (λ i. nat_lt i floor) 16; left = 0; free = false; fails = 0; block = 0 }

-- The tokens of these orders bring every device that fits up to date, and none of them is a bad entry.
abbrev pub BringsUp : List Order → ℕ → ℕ → List Order → Type 0
BringsUp orders limit floor list =
    (next : ℕ → ℕ) (start unit : ℕ) (form : Form) (origin : Summary) (entries : List Entry)
    → AreSold next start limit orders → IsFitting next start unit limit floor (last_count orders) origin entries
    → (after : List Entry) × (typed_all next start unit form origin (Some entries) list ≡ Some after) × (top origin after ≡ last_count orders)

-- Each of these orders is one of those.
abbrev pub AreAmong : List Order → List Order → Type 0
AreAmong orders [] = Unit {0}
AreAmong orders (order ∷ rest) = (order_with orders order.count ≡ Some order) × AreAmong orders rest

-- These orders of the row bring the device that is furthest behind up to date, with no bad entry.
pub record BringsBehind (next : ℕ → ℕ) (start unit : ℕ) (form : Form) (orders : List Order) (limit floor : ℕ) (list : List Order) : Type 0 where
  pub among : AreAmong orders list
  pub after : List Entry
  pub typed_is : typed_all next start unit form (behind limit floor) (Some []) list ≡ Some after
  pub top_is : top (behind limit floor) after ≡ last_count orders

-- No list of the row's orders that does it is shorter.
abbrev pub IsShortest : List Order → ℕ → ℕ → List Order → Type 0
IsShortest orders limit floor list =
    (next : ℕ → ℕ) (start unit : ℕ) (form : Form) (other : List Order) → IsLimit limit → AreSold next start limit orders
    → BringsBehind next start unit form orders limit floor other → length list ≤ length other

-- And where there is an advice, it is such a list itself.
abbrev pub BringsItself : List Order → ℕ → ℕ → List Order → Type 0
BringsItself orders limit floor list =
    (next : ℕ → ℕ) (start unit : ℕ) (form : Form) → IsLimit limit → AreSold next start limit orders
    → BringsBehind next start unit form orders limit floor list

-- No list of the row's orders does it.
abbrev pub NoneBrings : List Order → ℕ → ℕ → Type 0
NoneBrings orders limit floor =
    (next : ℕ → ℕ) (start unit : ℕ) (form : Form) (other : List Order) → IsLimit limit → AreSold next start limit orders
    → BringsBehind next start unit form orders limit floor other → ⊥
