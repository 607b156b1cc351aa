-- How a device stands on its flash. Each of the two banks has a head of twelve words and behind it room for 500 entries
-- of the history, one word each, in the order in which they came. The bank with the greater number is in use; it began
-- with a snapshot of all that came before.
use Rattle.std.specs.Prelude.{◌≡◌, ℕ, ◌+◌, ◌-◌, ◌*◌, ◌/◌, ◌%◌, ◌^◌, ◌⊎◌, Bool, true, false, ◌==◌, nat_le, List, take, drop, if◌then◌else◌}
use Rattle.std.specs.Int.{w32, from_be_bytes}
use Rattle.paygo_spec.specs.declared.Config.{Config}
use Rattle.paygo_spec.specs.Digits.{digit_count}
use Rattle.paygo_spec.specs.History.{Summary, raised_limit}

-- Four bytes of the key, the first the most significant.
abbrev pub key_number : List ℕ → ℕ → ℕ
key_number key i = from_be_bytes w32 (take 4 (drop (4 * i) key))

-- The format of a bank: 1, or 2 where the device was raised before the bank began.
abbrev pub format_of : ℕ → ℕ
format_of limit = if limit == raised_limit then 2 else 1

-- The number at each place of a head: the bank's number, the key, the starting code, the format with the form and the
-- divider, and the summary with which the bank begins: its limit by the format, last count and used bits, time left in two halves, free and
-- failures, and the block.
abbrev pub head_number : ℕ → Config → Summary → ℕ → ℕ
head_number number config start place =
    if place == 0 then number
    else if nat_le place 4 then key_number config.key (place - 1)
    else if place == 5 then config.start
    else if place == 6 then format_of start.limit * 2 ^ 24 + digit_count config.form * 2 ^ 8 + config.divider
    else if place == 7 then start.last * 2 ^ 16 + start.bits
    else if place == 8 then start.left / 2 ^ 32
    else if place == 9 then start.left % 2 ^ 32
    else if place == 10 then (if start.free then 2 ^ 8 else 0) + start.fails
    else start.block

-- Where the next entry goes: the number of the bank in use, and the place in it, from 12 to 512. At 512 the bank is full,
-- and the next entry goes to the other bank.
pub record Position : Type 0 where
  pub number : ℕ
  pub place : ℕ

-- The position of a new device.
abbrev pub first_position : Position
first_position = record { number = 1; place = 12 }

-- The number of the last bank: in the life of a device each bank is erased 50,000 times, but for erases that are done
-- again after a power cut.
abbrev pub last_bank : ℕ
last_bank = 100000

-- How many more entries the flash has room for: the places that are free in this bank, and 500 in each later one.
abbrev pub room : Position → ℕ
room at = (512 - at.place) + (last_bank - at.number) * 500

-- The position one entry on. From a full bank it is that behind the first entry of the next one.
abbrev pub further : Position → Position
further at =
    if at.place == 512 then record { number = at.number + 1; place = 13 }
    else record { number = at.number; place = at.place + 1 }

-- The position in a next bank that has no entry yet.
abbrev pub turned : Position → Position
turned at = record { number = at.number + 1; place = 12 }

-- How many calls of the flash an entry takes that is added at this position: one word, or the next bank and one word.
abbrev pub calls_of_entry : Position → ℕ
calls_of_entry at = if room at == 0 then 0 else if at.place == 512 then 14 else 1

-- What becomes of the position where the power is cut while an entry is added: the entry counts, and the position is one
-- entry on. Or it doesn't count, and the position is as before, or one entry on with a torn word passed over, or, from
-- a full bank, that of the next bank without an entry.
abbrev pub Leaves : Position → Bool → Position → Type 0
Leaves at true now = now ≡ further at
Leaves at false now = (now ≡ at) ⊎ ((now ≡ further at) ⊎ ((at.place ≡ 512) × (now ≡ turned at)))
