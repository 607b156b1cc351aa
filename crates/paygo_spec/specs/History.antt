-- The history of a device: where it starts, and the entries since then, the newest first. So a history J with one
-- entry e more is `e ∷ J`.
use Rattle.std.specs.Prelude.{◌≡◌, ℕ, ◌+◌, ◌-◌, ◌%◌, ◌<◌, ◌≤◌, min, max, Bool, true, false, not, ◌&&◌, ◌||◌, ◌==◌, nat_lt, nat_le, IsSome, is_some, ◌⊎◌, List, [], ◌∷◌, if◌then◌else◌}
use Rattle.std.specs.Int.{bit_at}
use Rattle.std.specs.declared.option.Option.{Option}
use Rattle.std.specs.declared.option.Option.TheVariants.{None, Some}
use Rattle.paygo_spec.specs.declared.Entry.{Entry}
use Rattle.paygo_spec.specs.declared.Entry.TheVariants.{Accept, Raised}
use Rattle.paygo_spec.specs.declared.TokenKind.{TokenKind}
use Rattle.paygo_spec.specs.declared.TokenKind.TheVariants.{Add, Set, Free, Sync}

-- The greatest count that a device ever takes, until it is raised, and from then on.
abbrev pub first_limit : ℕ
first_limit = 4095

abbrev pub raised_limit : ℕ
raised_limit = 16383

-- A number is one of the two.
abbrev pub IsLimit : ℕ → Type 0
IsLimit limit = (limit ≡ first_limit) ⊎ (limit ≡ raised_limit)

-- Where a history starts: the greatest count that the device ever takes, the last count, which of the sixteen counts up
-- to it are used, time left, whether the device is free, the failures, and the block.
pub record Summary : Type 0 where
  pub limit : ℕ
  pub last : ℕ
  pub bits : ℕ
  pub left : ℕ
  pub free : Bool
  pub fails : ℕ
  pub block : ℕ

-- A new device.
abbrev pub fresh : Summary
fresh = record { limit = first_limit; last = 0; bits = 0; left = 0; free = false; fails = 0; block = 0 }

-- Odd counts are those of set tokens, even counts those of add tokens.
abbrev pub is_odd : ℕ → Bool
is_odd n = n % 2 == 1

-- The kind of the token of this count and value, if there is one. A value up to 995 says how many units of time are set
-- by an odd count, or added by an even one. With an odd count 998 frees the device, and 999 only moves the count.
abbrev pub kind_of : ℕ → ℕ → Option TokenKind
kind_of count value =
    if nat_le value 995 then (if is_odd count then Some Set else Some Add)
    else if is_odd count && value == 998 then Some Free
    else if is_odd count && value == 999 then Some Sync
    else None

-- The greatest accepted count.
abbrev pub top : Summary → List Entry → ℕ
top start [] = start.last
top start (Accept n v ∷ entries) = max n (top start entries)
top start (_ ∷ entries) = top start entries

-- The greatest count that the device ever takes: it was raised, or it is that of its start.
abbrev pub limit_of : Summary → List Entry → ℕ
limit_of start [] = start.limit
limit_of start (Raised ∷ entries) = raised_limit
limit_of start (_ ∷ entries) = limit_of start entries

-- How often a count was accepted.
abbrev pub accepts : ℕ → List Entry → ℕ
accepts count [] = 0
accepts count (Accept n v ∷ entries) = (if n == count then 1 else 0) + accepts count entries
accepts count (_ ∷ entries) = accepts count entries

-- Whether a count was spent when the history began. A start remembers sixteen counts, bit i for the count i below
-- its last one. Every older count is spent.
abbrev pub spent_at_start : Summary → ℕ → Bool
spent_at_start start count =
    nat_le count start.last && (nat_le (count + 16) start.last || bit_at start.bits (start.last - count) == 1)

-- Whether a count from 1 on is spent, so that its token gives nothing any more: it was accepted, or a set token of a
-- greater count was accepted, which overtakes all counts below it, or it was spent when the history began.
abbrev pub spent : Summary → List Entry → ℕ → Bool
spent start [] count = spent_at_start start count
spent start (Accept n v ∷ entries) count = (count == n || (is_odd n && nat_lt count n)) || spent start entries count
spent start (_ ∷ entries) count = spent start entries count

-- The same as a fact: the count was accepted, or an accepted odd count is above it, or it was spent at the start.
abbrev pub IsSpent : Summary → List Entry → ℕ → Type 0
IsSpent start entries count =
    (1 ≤ accepts count entries) ⊎
    (((n : ℕ) × (count < n) × (is_odd n ≡ true) × (1 ≤ accepts n entries)) ⊎ (spent_at_start start count ≡ true))

-- The greatest count that a device takes next with a value: 64 above the greatest accepted one, and for a sync token,
-- of value 999, 100 above it, but never above its limit. So a customer may lose a number of tokens, and a guess has few
-- counts to meet.
abbrev pub reach : Summary → List Entry → ℕ → ℕ
reach start entries value = min (limit_of start entries) (top start entries + (if value == 999 then 100 else 64))

-- A device with this history takes the token of this count and value, which must be of some kind. One of an odd count
-- is taken above every accepted count. An add token, of an even count, is taken in any order, unless it is spent, or
-- sixteen counts or more below the greatest accepted one.
abbrev pub Valid : Summary → List Entry → ℕ → ℕ → Type 0
Valid start entries count value =
    (1 ≤ count) × (count ≤ reach start entries value) × IsSome (kind_of count value) ×
    (((is_odd count ≡ true) × (top start entries < count)) ⊎
    ((is_odd count ≡ false) × (top start entries < count + 16) × (spent start entries count ≡ false)))

-- The same as a test, for a search.
abbrev pub is_valid : Summary → List Entry → ℕ → ℕ → Bool
is_valid start entries count value =
    nat_le 1 count && nat_le count (reach start entries value) && is_some (kind_of count value) &&
    (if is_odd count
    then nat_lt (top start entries) count
    else nat_lt (top start entries) (count + 16) && not (spent start entries count))
