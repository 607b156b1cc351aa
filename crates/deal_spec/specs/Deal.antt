-- The deal of a shop and a customer over one device, as a machine without keypad, flash and text: a token is a number.
-- All that counts stands in one book, the newest first, and everything else is worked out from the book.
use Rattle.std.specs.Prelude.{◌≡◌, ◌≢◌, ℕ, ◌+◌, ◌-◌, ◌*◌, ◌%◌, ◌^◌, ◌<◌, ◌≤◌, ◌⊎◌, min, max, Bool, true, false, ◌&&◌, ◌||◌, ◌==◌, nat_le, nat_lt, List, [], ◌∷◌, if◌then◌else◌}
use Rattle.ledger_spec.specs.declared.Order.{Order}

-- Something that counts.
pub data Item : Type 0 where
  -- the shop sold an order, which has a token of one count and one value
  Sold : (order : Order) → Item
  -- the device accepted a token, as that of this count and value
  Accepted : (count value token : ℕ) → Item
  -- a wrong token was typed, which counts as a failure
  Failed : (token : ℕ) → Item
  -- so many seconds passed
  Passed : (seconds : ℕ) → Item
  -- the device was raised, to the greater of its two limits
  Raised : Item

-- One move of the deal.
pub data Move : Type 0 where
  -- this counts, and was answered
  Counts : (item : Item) → Move
  -- the power was cut, or the shop's database failed, before the answer: this counts wholly or not at all
  Cut : (item : Item) (counted : Bool) → Move
  -- the device answered that its flash is worn: this doesn't count
  Worn : (item : Item) → Move
  -- a payment was asked again: the shop answered with the order that it sold before
  Again : (order : Order) → Move
  -- a token gave nothing and cost nothing: the device answered that entries are blocked, after failures
  Blocked : (token : ℕ) → Move
  -- a token gave nothing and cost nothing: the device answered that it was used or overtaken
  Old : (token : ℕ) → Move
  -- the program ended, and starts again
  Starts : Move
  -- nothing of this deal: the device's power comes, a look at it, a key of an entry, or something of another device
  Idle : Move

-- The list has it.
abbrev pub Has : {A : Type 0} → List A → A → Type 0
Has [] x = ⊥
Has (y ∷ ys) x = (x ≡ y) ⊎ Has ys x

-- The newest count: the greatest that was accepted.
abbrev pub newest : List Item → ℕ
newest [] = 0
newest (Accepted count value token ∷ book) = max count (newest book)
newest (_ ∷ book) = newest book

-- The greatest count that the device ever takes.
abbrev pub limit : List Item → ℕ
limit [] = 4095
limit (Raised ∷ book) = 16383
limit (_ ∷ book) = limit book

abbrev pub is_odd : ℕ → Bool
is_odd n = n % 2 == 1

-- A used count: it was accepted, or an odd one above it was, which overtakes it.
abbrev pub used : List Item → ℕ → Bool
used [] n = false
used (Accepted count value token ∷ book) n = (n == count || (is_odd count && nat_lt n count)) || used book n
used (_ ∷ book) n = used book n

-- A count and a value that a device knows: up to 995 units of time, 998 to free it, 999 to move the newest count.
abbrev pub is_known : ℕ → ℕ → Bool
is_known count value = nat_le value 995 || (is_odd count && (value == 998 || value == 999))

-- A count and a value are fresh and in reach: up to 64 counts above the newest one, or 100 with the value 999; an odd
-- count is above the newest one, and an even one isn't used, and isn't 16 or more below it.
pub record IsFresh (book : List Item) (count value : ℕ) : Type 0 where
  pub first : 1 ≤ count
  pub reach : count ≤ min (limit book) (newest book + (if value == 999 then 100 else 64))
  pub known : is_known count value ≡ true
  pub unused : ((is_odd count ≡ true) × (newest book < count))
      ⊎ ((is_odd count ≡ false) × (newest book < count + 16) × (used book count ≡ false))

-- What a device shows: seconds left, whether it is free, failures in a row, and seconds for which entries are blocked.
pub record Clock : Type 0 where
  pub left : ℕ
  pub free : Bool
  pub fails : ℕ
  pub block : ℕ

-- After a token: an odd count sets the time left to its units, an even one adds them, but not on a free device.
abbrev pub after_token : ℕ → ℕ → ℕ → Clock → Clock
after_token unit count value clock =
    if nat_le value 995 then
    (if is_odd count then record clock { left = value * unit; free = false; fails = 0 }
    else if clock.free then record clock { fails = 0 }
    else record clock { left = min (clock.left + value * unit) (10 ^ 12); fails = 0 })
    else if is_odd count && value == 998 then record clock { left = 0; free = true; fails = 0 }
    else record clock { fails = 0 }

-- After a failure entries are blocked, for twice as long at each one in a row.
abbrev pub after_failure : Clock → Clock
after_failure clock = let fails = min (clock.fails + 1) 10 in record clock { fails = fails; block = 60 * 2 ^ fails }

-- What the device shows after all that counts, where one unit of time has so many seconds.
abbrev pub clock : ℕ → List Item → Clock
clock unit [] = record { left = 0; free = false; fails = 0; block = 0 }
clock unit (Accepted count value token ∷ book) = after_token unit count value (clock unit book)
clock unit (Failed token ∷ book) = after_failure (clock unit book)
clock unit (Passed seconds ∷ book) =
    let old = clock unit book in record old { left = old.left - seconds; block = old.block - seconds }
clock unit (_ ∷ book) = clock unit book

-- An order may be sold: its id, its count and its token are those of no order that was sold before, its count is above
-- theirs, and where its token was guessed before, it was guessed as that of this count and value.
pub record MaySell (book : List Item) (order : Order) : Type 0 where
  pub differs : (other : Order) → Has book (Sold other)
      → (other.count < order.count) × (other.id ≢ order.id) × (other.token ≢ order.token)
  pub alone : (count value : ℕ) → Has book (Accepted count value order.token)
      → (count ≡ order.count) × (value ≡ order.value)

-- A token may be accepted: nothing is blocked, its count and value are fresh, and where it is that of an order, they
-- are those of the order.
pub record MayAccept (unit : ℕ) (book : List Item) (count value token : ℕ) : Type 0 where
  pub unblocked : (clock unit book).block ≡ 0
  pub fresh : IsFresh book count value
  pub alone : (order : Order) → Has book (Sold order) → token ≡ order.token
      → (count ≡ order.count) × (value ≡ order.value)

-- An order may be used now: it was sold, its count and value are fresh, and nothing is blocked.
pub record IsUsable (unit : ℕ) (book : List Item) (order : Order) : Type 0 where
  pub sold : Has book (Sold order)
  pub fresh : IsFresh book order.count order.value
  pub unblocked : (clock unit book).block ≡ 0

-- A token is that of no order that may be used now.
abbrev pub IsUseless : ℕ → List Item → ℕ → Type 0
IsUseless unit book token = (order : Order) → IsUsable unit book order → token ≡ order.token → ⊥

-- This may count next. No token is wrong that may be used now, or that was accepted before.
abbrev pub MayCount : ℕ → List Item → Item → Type 0
MayCount unit book (Sold order) = MaySell book order
MayCount unit book (Accepted count value token) = MayAccept unit book count value token
MayCount unit book (Failed token) =
    ((clock unit book).block ≡ 0) × IsUseless unit book token
    × ((count value : ℕ) → Has book (Accepted count value token) → ⊥)
MayCount unit book (Passed seconds) = Unit {0}
MayCount unit book Raised = limit book ≡ 4095

-- This move may come next. No token is old that is that of an order which may be used now.
abbrev pub MayMove : ℕ → List Item → Move → Type 0
MayMove unit book (Counts item) = MayCount unit book item
MayMove unit book (Cut item counted) = MayCount unit book item
MayMove unit book (Worn item) = MayCount unit book item
MayMove unit book (Again order) = Has book (Sold order)
MayMove unit book (Blocked token) = 0 < (clock unit book).block
MayMove unit book (Old token) = ((clock unit book).block ≡ 0) × IsUseless unit book token
MayMove unit book Starts = Unit {0}
MayMove unit book Idle = Unit {0}

-- The book after a move.
abbrev pub after : Move → List Item → List Item
after (Counts item) book = item ∷ book
after (Cut item counted) book = if counted then item ∷ book else book
after _ book = book

-- These moves lead from one book to another.
abbrev pub Deals : ℕ → List Item → List Move → List Item → Type 0
Deals unit old [] new = new ≡ old
Deals unit old (move ∷ moves) new = MayMove unit old move × Deals unit (after move old) moves new
